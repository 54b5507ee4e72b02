pub mod Choosing
pub mod Chosen

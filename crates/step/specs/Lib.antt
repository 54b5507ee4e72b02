pub mod Steps
pub mod Prepared
pub mod Target

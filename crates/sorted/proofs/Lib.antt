pub mod Search
pub mod Calls
pub mod Parts

pub mod Digits
pub mod Words
pub mod Fields
pub mod Lines
pub mod Ascii
mod Examples

pub mod Number
pub mod Words
pub mod Fields
pub mod Lines

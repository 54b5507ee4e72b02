pub mod Rows
pub mod Maximum
pub mod Peaks

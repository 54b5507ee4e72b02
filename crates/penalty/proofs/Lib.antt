pub mod Expanded
pub mod Lines
pub mod Halves
pub mod Sizes
pub mod Functions
pub mod Own

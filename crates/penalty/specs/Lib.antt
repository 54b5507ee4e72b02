pub mod Intron
pub mod Curves

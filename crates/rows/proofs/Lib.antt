pub mod Maxima
pub mod Shares
pub mod Bases
pub mod Plateaus
pub mod Ranges

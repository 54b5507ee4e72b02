pub mod Lists
pub mod Chain
pub mod Sheet
pub mod Penalty
pub mod SegmentScore
pub mod Step
pub mod Ranges
pub mod Lines

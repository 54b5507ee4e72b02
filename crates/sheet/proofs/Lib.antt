pub mod Ranged
pub mod Outcomes
mod Examples
pub mod Refusals

mod Largest
mod Nearness
mod Spanning
mod Summing
mod Walking
mod Filling
pub mod Smallness

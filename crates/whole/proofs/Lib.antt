pub mod Linear
pub mod Order
pub mod Comparisons
pub mod Size
pub mod Quotients
pub mod Sums
pub mod Bits

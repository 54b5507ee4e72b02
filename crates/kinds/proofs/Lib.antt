pub mod Fields
pub mod Order

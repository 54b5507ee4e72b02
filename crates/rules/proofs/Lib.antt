pub mod Table
pub mod LastSeen
pub mod Order

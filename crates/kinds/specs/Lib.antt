pub mod Kinds
pub mod Records
pub mod Keys
pub mod Order

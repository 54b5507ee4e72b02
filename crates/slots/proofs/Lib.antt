pub mod Classes
pub mod Counting
pub mod StartOrder
pub mod Behind
pub mod Grouping
pub mod Lines

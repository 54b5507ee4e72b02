pub mod Tables
pub mod Answer
pub mod Within

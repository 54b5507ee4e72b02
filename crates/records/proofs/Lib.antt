pub mod Records
pub mod Faults
pub mod Accepted
pub mod Worked

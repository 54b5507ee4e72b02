pub mod Rules
pub mod Interrupters
pub mod Table
pub mod LastSeen

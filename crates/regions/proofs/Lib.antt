mod Totals
pub mod Held

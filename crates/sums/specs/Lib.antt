pub mod Sums
pub mod Table
pub mod Held
pub mod Window
pub mod Plateau
pub mod Walk

pub mod Heirs
pub mod Sums

-- The definitions of this crate.
pub mod Parts
pub mod Work
pub mod Settling
pub mod Together

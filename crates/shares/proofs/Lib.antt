-- The laws of this crate.
pub mod Work
pub mod Multiples
pub mod Pieces
pub mod Writing
pub mod Settling
pub mod Together
pub mod Estates

-- The definitions of this crate.
pub mod Households
pub mod Reading
pub mod Printing
pub mod Building
pub mod Outcomes
pub mod Messages

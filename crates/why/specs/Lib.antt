-- The definitions of this crate.
pub mod Explained
pub mod Answers

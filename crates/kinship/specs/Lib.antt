-- The definitions of this crate.
pub mod Causes
pub mod Forebears

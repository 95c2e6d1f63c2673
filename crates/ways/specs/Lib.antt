-- The definitions of this crate.
pub mod Ways
pub mod Rows
pub mod Going
pub mod Laws

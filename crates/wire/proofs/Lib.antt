-- The laws of this crate.
pub mod Bytes
pub mod Numbers
pub mod ReadBack
pub mod Places

pub mod Promises
pub mod Fits

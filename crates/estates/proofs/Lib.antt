pub mod Areas
pub mod Starts
pub mod Estates
pub mod Shares

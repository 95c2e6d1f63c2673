pub mod Walks
pub mod Rows
pub mod Steps
pub mod Listings
pub mod Downward

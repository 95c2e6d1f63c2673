pub mod Rows
pub mod Walking
pub mod Listings
pub mod Heirs

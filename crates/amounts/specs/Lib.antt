pub mod Passes
pub mod Lines
pub mod Statements
pub mod Estates

pub mod Marks
pub mod Places

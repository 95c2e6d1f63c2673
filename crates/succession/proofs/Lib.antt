pub mod Lines
pub mod Starts
pub mod Walks
pub mod Grandparents
pub mod Inheriting
pub mod Spouses
pub mod Settling

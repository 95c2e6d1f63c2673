pub mod Written
pub mod Regions
pub mod Tables

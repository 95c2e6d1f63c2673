pub mod Stages
pub mod Stores

pub mod Serving
pub mod Births
pub mod Marriages
pub mod Estates
pub mod Stages

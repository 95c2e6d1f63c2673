pub mod Births
pub mod Children
pub mod Links
pub mod Walks

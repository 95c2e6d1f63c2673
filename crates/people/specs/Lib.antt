pub mod Layout
pub mod Persons
pub mod Walking
pub mod Walks

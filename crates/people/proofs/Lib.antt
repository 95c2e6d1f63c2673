pub mod Layouts
pub mod Links
pub mod Valids
pub mod Walks

pub mod Walks
pub mod Marks
pub mod Going
pub mod Laws

pub mod Families
pub mod Living
pub mod Decedent
pub mod Multiples
pub mod Shares
pub mod Statements
pub mod Answers
pub mod Examples

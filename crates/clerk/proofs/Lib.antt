pub mod Calling
pub mod Asking

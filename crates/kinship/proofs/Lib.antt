pub mod Forebears
pub mod Standing
pub mod Kin

pub mod Cuts
pub mod Texts
pub mod Readings
pub mod OneForm

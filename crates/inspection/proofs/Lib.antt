pub mod Scans
pub mod Parts
pub mod Soundness

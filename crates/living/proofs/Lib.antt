pub mod Raising
pub mod Lowering
pub mod Changes
pub mod Bits
pub mod Scans

pub mod Drives
pub mod Refined
pub mod Ways

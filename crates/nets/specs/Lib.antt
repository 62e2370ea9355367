pub mod Nets
pub mod Substitution
pub mod Parts
pub mod Forcing

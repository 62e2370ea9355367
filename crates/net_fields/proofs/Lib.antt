pub mod Fields
pub mod Patterns
pub mod Icodes
pub mod Places
pub mod Loops
pub mod Fitting
pub mod EachBelow

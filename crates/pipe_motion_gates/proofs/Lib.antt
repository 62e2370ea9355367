pub mod Atoms
pub mod Codes
pub mod Inputs
pub mod Legal
pub mod Shows

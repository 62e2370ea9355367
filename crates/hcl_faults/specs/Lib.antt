pub mod Kinds
pub mod Places
pub mod Expected
pub mod Brackets
pub mod BindFaults
pub mod Stops

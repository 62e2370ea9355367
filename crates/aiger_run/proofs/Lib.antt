pub mod Vectors
pub mod Places
pub mod Told

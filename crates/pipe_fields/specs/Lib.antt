pub mod Layout
pub mod Allowed
pub mod Lines
pub mod Laws

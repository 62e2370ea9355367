pub mod Facts
pub mod Mending

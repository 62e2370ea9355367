pub mod Covered
pub mod Running

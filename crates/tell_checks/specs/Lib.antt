pub mod Accepted
pub mod Explained

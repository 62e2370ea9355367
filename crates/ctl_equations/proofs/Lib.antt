pub mod Rows
pub mod Solved
pub mod Worths

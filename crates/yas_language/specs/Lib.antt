pub mod Tokens
pub mod Statements
pub mod BadBytes
pub mod Language

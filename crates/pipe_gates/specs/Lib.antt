pub mod Columns
pub mod GateTruths
pub mod Inputs

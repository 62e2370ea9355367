mod Pairs
mod Opened
pub mod Arms

pub mod Grammar
pub mod Fault
pub mod Depth
pub mod Machine
pub mod Tokens
pub mod Steps
pub mod Read
pub mod Stops

pub mod Inside
pub mod Steps
pub mod Chosen
pub mod Taken
pub mod Entries
mod OneGate

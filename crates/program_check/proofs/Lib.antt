pub mod Told
pub mod Steps
pub mod OneOutcome

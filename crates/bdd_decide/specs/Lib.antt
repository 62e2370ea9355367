pub mod Decisions
pub mod Splitting

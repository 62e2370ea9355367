pub mod Failures
pub mod Answered

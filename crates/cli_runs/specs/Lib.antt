pub mod Answers
pub mod Big
pub mod PipeRuns

pub mod Bigs
pub mod Listings
pub mod PipeRuns
pub mod Runs
pub mod SequentialRuns

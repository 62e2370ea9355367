pub mod Runs
pub mod WhereFrom
pub mod Changes

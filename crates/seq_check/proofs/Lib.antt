pub mod PlusRows
pub mod Runs
pub mod Decided

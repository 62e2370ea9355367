pub mod PipeVerdicts
pub mod Accepted
pub mod Orders
pub mod Tails

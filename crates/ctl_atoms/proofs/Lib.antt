pub mod Same
pub mod Added
pub mod Plans
pub mod Sorts
pub mod Local
pub mod Solved
pub mod Listed

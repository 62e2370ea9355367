pub mod Truths
mod Added
pub mod Numbers
pub mod Gates
pub mod Sources
pub mod Forcing

pub mod Each
pub mod Listed
pub mod Runs
pub mod Unlisted

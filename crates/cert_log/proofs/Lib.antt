pub mod Wanted
pub mod Shown

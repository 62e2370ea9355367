pub mod Ended
pub mod Shown

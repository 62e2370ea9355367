mod Reported
pub mod Telling

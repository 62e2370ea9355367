mod Start
pub mod Older

mod Early
pub mod OneSettings
pub mod PipeVerdict
pub mod Tails

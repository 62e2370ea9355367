pub mod AigerTexts
pub mod Certified
pub mod Samples

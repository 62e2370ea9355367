pub mod AigerTexts
pub mod Answers
pub mod Certified
pub mod Samples

pub mod ScannedWords
pub mod ShowAnswers
pub mod ShowContract

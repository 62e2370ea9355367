pub mod Answers
pub mod CallContract

pub mod Diagrams
pub mod Results
pub mod Answers
pub mod Tables
pub mod Meaning
pub mod Building

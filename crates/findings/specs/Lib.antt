pub mod Refuted
pub mod Requirements
pub mod Findings

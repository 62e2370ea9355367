pub mod Lines
pub mod Requirements

pub mod Lines
pub mod Json

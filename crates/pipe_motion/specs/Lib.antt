pub mod Flow
pub mod Gates
pub mod Predictions

pub mod Fronts
pub mod Signals

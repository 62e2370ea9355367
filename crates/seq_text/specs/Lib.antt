pub mod Signals
pub mod Lines
pub mod Observer
pub mod Laws

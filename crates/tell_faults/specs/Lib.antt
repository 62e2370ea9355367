pub mod Faultless
pub mod Faults
pub mod Stops
pub mod Told

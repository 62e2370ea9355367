pub mod Pipe
pub mod Invariant
pub mod Calls
pub mod Destinations

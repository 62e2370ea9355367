pub mod RunsTo
pub mod Ends
pub mod Cosimulation

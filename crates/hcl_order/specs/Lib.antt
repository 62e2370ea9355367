pub mod Dependence
pub mod Layers
pub mod Ways
pub mod Arranging
pub mod Outcomes

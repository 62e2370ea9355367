pub mod Purity
pub mod Near

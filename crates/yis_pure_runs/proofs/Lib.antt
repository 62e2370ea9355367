pub mod Purity
pub mod Near
pub mod Calls

pub mod Walks
pub mod Making

pub mod Icodes
pub mod Told
pub mod Extended

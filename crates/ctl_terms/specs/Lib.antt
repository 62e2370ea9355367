pub mod Pairs
pub mod Translatable

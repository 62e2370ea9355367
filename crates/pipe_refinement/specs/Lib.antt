pub mod Kinds
pub mod Facts
pub mod Invariant
pub mod Refines
pub mod Theorems

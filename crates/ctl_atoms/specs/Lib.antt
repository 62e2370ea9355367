pub mod Leaves
pub mod TermAtoms
pub mod Rows
pub mod Mixing
pub mod Atoms

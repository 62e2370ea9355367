mod Fields
pub mod Solved
pub mod AtomsGiven

pub mod Agreement
pub mod Bigs
pub mod Certified
pub mod Loaded
pub mod Plans

pub mod States
pub mod Lockstep
pub mod Agreement

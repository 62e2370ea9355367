pub mod Lists
pub mod Terms
pub mod Equations
pub mod Kinds
pub mod Tables
pub mod Signals

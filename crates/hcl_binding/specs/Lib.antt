pub mod Binding
pub mod BindSteps
pub mod Faults
pub mod Places

pub mod Requirements
pub mod Flows

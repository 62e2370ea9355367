pub mod Fields
pub mod Obligations
pub mod Datapaths
pub mod Accepted
pub mod Cycle
pub mod Rules
pub mod Designed
pub mod Verdicts

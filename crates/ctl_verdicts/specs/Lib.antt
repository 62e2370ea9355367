pub mod Decisions
pub mod ObligationSet

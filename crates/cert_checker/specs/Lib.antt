pub mod Lines
pub mod CheckerFacts
pub mod Rules
pub mod Certificates
pub mod Meaning
pub mod Faults

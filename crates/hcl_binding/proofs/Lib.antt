pub mod Naming
pub mod Bound
pub mod TermsOf
pub mod Designs
pub mod UsesOf
pub mod Faulted

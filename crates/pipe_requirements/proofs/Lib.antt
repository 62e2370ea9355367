pub mod ByRequirements

pub mod EachMet
pub mod Refuted

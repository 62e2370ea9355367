pub mod Members
pub mod Leasts
pub mod Walking
pub mod Layering
pub mod Choosing
pub mod Arranging
pub mod Sound

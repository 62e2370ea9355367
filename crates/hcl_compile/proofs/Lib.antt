pub mod Walked
pub mod Made
pub mod Choosing
pub mod Valuing
pub mod Rooted

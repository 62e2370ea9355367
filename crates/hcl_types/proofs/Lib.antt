pub mod Inductions
pub mod Values
pub mod Each
pub mod Related
pub mod Orders
pub mod Stores

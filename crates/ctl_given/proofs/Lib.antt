pub mod Placed
mod Codes

mod Bits
mod Sources
mod Searching
pub mod Deciding
mod Mirrors
mod Forced
mod Overlaid

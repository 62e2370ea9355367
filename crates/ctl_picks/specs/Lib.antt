pub mod Picks
pub mod TakenPicks
pub mod Entries
pub mod Laws

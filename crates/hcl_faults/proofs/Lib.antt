pub mod Listing
pub mod Runs
pub mod ItemLemmas
pub mod StopLemmas
pub mod PlaceLemmas

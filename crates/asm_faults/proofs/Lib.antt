pub mod StopLemmas
pub mod LineLemmas

pub mod PlusCycles
pub mod OneRun

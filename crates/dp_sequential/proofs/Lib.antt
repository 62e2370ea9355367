pub mod Rules
pub mod OneRun
pub mod Calls
pub mod Sizes
pub mod Tells
pub mod SeqRows

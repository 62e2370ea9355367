pub mod Fields
pub mod Views
pub mod Atoms
pub mod SeqLine
pub mod PipeLines

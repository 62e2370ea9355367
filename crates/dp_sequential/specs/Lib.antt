pub mod Cycle
pub mod Hardware
pub mod Reads
pub mod Path
pub mod Laws
pub mod Machine
pub mod Seq
pub mod SeqLaws

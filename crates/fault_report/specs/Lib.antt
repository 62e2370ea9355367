pub mod Datapaths
pub mod ObjectBytes
pub mod Told

pub mod Spelling
pub mod FieldSpecs
pub mod AllowedNumbers
pub mod Icodes
pub mod Laws

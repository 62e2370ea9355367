pub mod Comments
pub mod Readers
pub mod Found
pub mod Read
pub mod Lines
pub mod BadBytes
pub mod Faults

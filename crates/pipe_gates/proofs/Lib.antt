pub mod Choices
pub mod Found
pub mod InputsKept
pub mod Known

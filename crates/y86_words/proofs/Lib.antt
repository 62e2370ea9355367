pub mod Arguments
pub mod Legal
pub mod Order
pub mod Wording

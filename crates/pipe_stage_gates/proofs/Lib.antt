pub mod Joined
pub mod Ready

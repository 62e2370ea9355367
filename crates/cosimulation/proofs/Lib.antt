pub mod Alike
pub mod Agree
pub mod Fields
pub mod Ends

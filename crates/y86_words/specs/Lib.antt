pub mod Arguments
pub mod Forms
pub mod Numbers
pub mod Views
pub mod Wording

pub mod Came
pub mod Designs
pub mod Does
pub mod Staged
pub mod Told

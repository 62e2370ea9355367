pub mod Parts
pub mod Designs
pub mod Belonging

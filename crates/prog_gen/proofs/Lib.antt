pub mod Valid
pub mod Laid
pub mod Fields
pub mod Chosen
pub mod Spanned
pub mod Placed

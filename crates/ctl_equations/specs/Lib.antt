pub mod Controls
pub mod Laws

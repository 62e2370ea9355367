pub mod Laws
pub mod AllowedPrefix
pub mod FirstBytes

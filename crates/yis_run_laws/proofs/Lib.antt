pub mod Walk
pub mod ReadBack
pub mod Statuses
pub mod Told
pub mod Walks

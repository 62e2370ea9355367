pub mod TraceLine
pub mod Drive

pub mod ObjectText
pub mod Loads
pub mod Lines
pub mod Grammar
pub mod LoadedText
pub mod Printed
pub mod ReadBack

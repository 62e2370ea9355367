mod Ended
pub mod Growth
pub mod RowSteps
pub mod Firsts
pub mod Tails
pub mod Faults
pub mod Solutions
pub mod Built
pub mod FromRows
pub mod Each
pub mod Decimal
pub mod Laid
pub mod Sections
pub mod WrittenText
pub mod OneAnswer
pub mod ReadBack

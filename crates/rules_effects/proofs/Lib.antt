pub mod Columns
pub mod Moving
pub mod Limits

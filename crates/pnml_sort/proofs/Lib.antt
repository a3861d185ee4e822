pub mod Moving
pub mod Sorting

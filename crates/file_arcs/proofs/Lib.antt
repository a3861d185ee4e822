pub mod Laws
pub mod Marks
pub mod Opening
pub mod Rows
pub mod Words

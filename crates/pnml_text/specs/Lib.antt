pub mod Words
pub mod Characters
pub mod Rest

pub mod Searching
pub mod Bytes

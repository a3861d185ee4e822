pub mod Entries
pub mod Pass

pub mod Groups
pub mod Turns

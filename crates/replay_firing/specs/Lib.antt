pub mod Short
pub mod Firing

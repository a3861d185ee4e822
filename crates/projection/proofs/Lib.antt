pub mod Choices
pub mod Tables

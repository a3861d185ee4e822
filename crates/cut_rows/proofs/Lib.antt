pub mod Inputs
pub mod Row

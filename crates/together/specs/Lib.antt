pub mod Told
pub mod Inputs

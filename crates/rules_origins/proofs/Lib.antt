pub mod Firsts
pub mod Reached
pub mod Keeping

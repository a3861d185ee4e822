pub mod Told
pub mod Need

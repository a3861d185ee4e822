pub mod Checks
pub mod Starting

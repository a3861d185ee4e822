pub mod Casting
pub mod Runs
pub mod Apart

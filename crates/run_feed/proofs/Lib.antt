pub mod Raising
pub mod Stepping
pub mod Ends

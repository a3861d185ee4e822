pub mod Need
pub mod Passing
pub mod Apart

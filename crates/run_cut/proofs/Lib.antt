pub mod Apart
pub mod Filling
pub mod Outcomes
pub mod Tracing

pub mod Inputs
pub mod Weighing
pub mod Ends
pub mod Apart

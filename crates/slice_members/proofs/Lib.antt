pub mod Selected
pub mod Placed

pub mod Joining
pub mod Packing

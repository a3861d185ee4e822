pub mod Sorted
pub mod Arcs
pub mod Drawing

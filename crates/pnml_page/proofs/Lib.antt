pub mod Sizes
pub mod Tags
pub mod Enough

pub mod Prefixes
pub mod Passing

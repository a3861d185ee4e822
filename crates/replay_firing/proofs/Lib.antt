pub mod Firing
pub mod Short
pub mod Caps
pub mod Trying

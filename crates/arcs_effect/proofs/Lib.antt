pub mod Differences
pub mod Parts
pub mod Places

pub mod Within
pub mod Markings
pub mod Replayed
pub mod Places

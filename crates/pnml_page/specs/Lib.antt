pub mod Profile
pub mod Steps
pub mod Meant

pub mod Agreed
pub mod Matched

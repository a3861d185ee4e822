pub mod Compared
pub mod Continued
pub mod Whole

pub mod Lowest
pub mod Runs
pub mod Rows
pub mod Caps

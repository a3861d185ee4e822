pub mod Ids
pub mod Filling

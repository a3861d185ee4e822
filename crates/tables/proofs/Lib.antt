pub mod Sets
pub mod Storing
pub mod Zeros

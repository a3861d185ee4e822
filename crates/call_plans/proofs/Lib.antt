pub mod Answering
pub mod Carrying
pub mod Converting

pub mod Reading
pub mod Halves
pub mod Carrying
pub mod Owning
pub mod Accepting

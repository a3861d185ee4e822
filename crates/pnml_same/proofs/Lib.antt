pub mod Pieces
pub mod Elements
pub mod Reading
pub mod Returning

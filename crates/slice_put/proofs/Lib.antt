pub mod Placing
pub mod Trailers

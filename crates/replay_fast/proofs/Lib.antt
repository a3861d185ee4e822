pub mod Signs
pub mod Moving
pub mod Marching
pub mod Fitting
pub mod Caps
pub mod Reading

pub mod Cutting
pub mod Listed
pub mod Roomy
pub mod Running
pub mod Taken
pub mod Unplayed

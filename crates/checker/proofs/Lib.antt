pub mod Listed
pub mod OnePass
pub mod Apart

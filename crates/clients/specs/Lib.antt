pub mod Ended
pub mod Played

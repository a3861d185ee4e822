pub mod Cuts
pub mod Replays

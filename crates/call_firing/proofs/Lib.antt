pub mod Changes
pub mod ArcRuns
pub mod Replayed
pub mod Followed
pub mod Taken
pub mod Ranged
pub mod Apart
pub mod Begun

pub mod AsRead
pub mod AsFollowed
pub mod AsTaken
pub mod Apart

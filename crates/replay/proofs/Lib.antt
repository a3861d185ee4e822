pub mod Listing
pub mod Underway
pub mod Loading
pub mod Apart

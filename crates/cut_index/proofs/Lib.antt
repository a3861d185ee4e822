pub mod Beside
pub mod Weights
pub mod Ends
pub mod Linking

pub mod Bytes
pub mod Laws
pub mod Rising
pub mod Through
pub mod Words

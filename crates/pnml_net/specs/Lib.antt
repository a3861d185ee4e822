pub mod Named
pub mod Drawn
pub mod Read

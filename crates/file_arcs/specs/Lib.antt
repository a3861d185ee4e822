pub mod Layout
pub mod Refusal
pub mod Facts
pub mod Sweep

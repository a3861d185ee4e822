pub mod Word
pub mod Refusal

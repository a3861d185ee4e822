pub mod Underway

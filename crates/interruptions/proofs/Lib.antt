pub mod Areas
pub mod Words
pub mod Leaving

pub mod Performing
pub mod Leaving
pub mod Instructions

pub mod Shut
pub mod Reached

pub mod Meeting
pub mod Giving

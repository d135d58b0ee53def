pub mod Steps
pub mod Entered
pub mod Found

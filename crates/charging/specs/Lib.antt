pub mod Ending
pub mod Ticking

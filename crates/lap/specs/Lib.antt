pub mod Stepping
pub mod Lapping

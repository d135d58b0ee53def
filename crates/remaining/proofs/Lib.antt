pub mod Remaining
pub mod Steps
pub mod Fields
pub mod Ticks
pub mod Stepping
pub mod Going

pub mod Operands
pub mod Seen
pub mod Reached

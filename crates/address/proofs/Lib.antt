pub mod Touches
pub mod Seen
pub mod Located

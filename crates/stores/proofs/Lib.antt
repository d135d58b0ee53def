pub mod Storing
pub mod Controls

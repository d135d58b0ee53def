pub mod Reaching
pub mod Denying

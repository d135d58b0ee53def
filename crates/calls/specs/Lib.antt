pub mod Calling
pub mod Storing

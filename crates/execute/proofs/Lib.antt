pub mod Operations
pub mod Exceptions
pub mod Reaching
pub mod Ending

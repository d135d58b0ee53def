pub mod Lowest
pub mod Asking

pub mod Codes
pub mod Biased

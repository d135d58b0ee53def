pub mod Touching
pub mod Locating

pub mod Calming
pub mod Passing

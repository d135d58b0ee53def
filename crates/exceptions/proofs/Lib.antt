pub mod Reading
pub mod Interrupting
pub mod Excepting

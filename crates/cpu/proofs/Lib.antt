pub mod Lctl
pub mod Wrap

pub mod Denying

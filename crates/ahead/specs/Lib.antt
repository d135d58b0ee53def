pub mod Completing

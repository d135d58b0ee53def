pub mod Controlling

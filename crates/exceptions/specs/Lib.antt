pub mod Excepting

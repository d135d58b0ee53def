pub mod Psws

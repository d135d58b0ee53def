pub mod Prefixing

pub mod Streaking

pub mod Lapping
pub mod Streaking

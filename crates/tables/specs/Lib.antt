pub mod Tabling
pub mod Spanning

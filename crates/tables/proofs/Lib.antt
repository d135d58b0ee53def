pub mod Tabling
pub mod Entries
pub mod Spanning

pub mod Packing
pub mod Kinds

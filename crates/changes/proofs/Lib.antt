-- Laws of the bits of an entry.
pub mod Bits

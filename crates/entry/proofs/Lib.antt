-- Laws of the parts of entry.
pub mod Parts

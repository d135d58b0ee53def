-- Laws of the parts of a verdict.
pub mod Parts

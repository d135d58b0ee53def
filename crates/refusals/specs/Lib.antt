-- The parts of a verdict, for the functions that share them.
pub mod Parts

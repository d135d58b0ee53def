-- The parts of a verdict beside those on the record.
pub mod Parts

-- The part of entry that goes by the mode.
pub mod Modes

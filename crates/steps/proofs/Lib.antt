pub mod Reading
pub mod Deciding
pub mod Marking
pub mod Completing
pub mod Operating

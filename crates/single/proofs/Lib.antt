pub mod Deciding
pub mod Operating
pub mod Calling
pub mod Meeting
pub mod Singling

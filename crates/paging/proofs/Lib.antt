-- Laws of the page desk's code.
pub mod Meeting
pub mod Accepting

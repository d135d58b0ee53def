pub mod Fetching
pub mod Loading

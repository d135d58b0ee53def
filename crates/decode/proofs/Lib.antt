-- Laws of the code's table, and of what the definition's gives.
pub mod Searching
pub mod Table

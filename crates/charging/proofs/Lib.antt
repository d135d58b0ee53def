pub mod Dues
pub mod States

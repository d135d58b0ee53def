pub mod Performing
pub mod Storing
pub mod Singling

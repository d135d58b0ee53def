pub mod Placing
pub mod Instructions
pub mod Words
pub mod Contents
pub mod Reaching
pub mod Turning
pub mod Lapping

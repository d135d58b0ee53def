pub mod Halfwords
pub mod Texts
pub mod Order

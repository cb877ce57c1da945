pub mod Texts
pub mod Order

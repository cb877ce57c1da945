pub mod Parts
pub mod Sames

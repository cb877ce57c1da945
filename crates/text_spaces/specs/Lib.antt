pub mod Spaces

pub mod Refs
pub mod Find

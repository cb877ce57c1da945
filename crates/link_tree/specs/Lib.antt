pub mod Steps
pub mod Linked

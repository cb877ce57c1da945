pub mod Chosen
pub mod Entries

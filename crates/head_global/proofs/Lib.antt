pub mod Stored
pub mod Says
pub mod Sound

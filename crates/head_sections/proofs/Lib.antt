pub mod Breaks
pub mod Join

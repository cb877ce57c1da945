pub mod Joined
pub mod Filling

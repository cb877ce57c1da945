pub mod Joined
pub mod Parting

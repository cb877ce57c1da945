pub mod Numbers
pub mod Joined

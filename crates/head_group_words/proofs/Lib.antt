pub mod Limits
pub mod Kept

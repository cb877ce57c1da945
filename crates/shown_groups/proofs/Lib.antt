pub mod Keys
pub mod Lines
pub mod Reading
pub mod Names
pub mod Collected
pub mod Limits
pub mod Fields

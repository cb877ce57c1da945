pub mod Ahead
pub mod Classes

pub mod Ahead
pub mod Keys

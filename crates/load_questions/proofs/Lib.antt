pub mod Laws
pub mod Patterns
pub mod Rows
pub mod Decoded

pub mod Along
pub mod Metered
pub mod Loads

pub mod Conditions
pub mod Checks

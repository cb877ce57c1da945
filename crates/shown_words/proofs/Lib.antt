pub mod Back
pub mod Shaped

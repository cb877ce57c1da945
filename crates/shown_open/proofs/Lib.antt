pub mod Parts
pub mod Both
pub mod Back
pub mod Opened
pub mod Comment
pub mod Once

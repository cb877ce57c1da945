pub mod Work
pub mod Seeing
pub mod Reaching

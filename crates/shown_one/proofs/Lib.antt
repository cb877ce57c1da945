pub mod Steps
pub mod Values
pub mod Plan
pub mod AsFull
pub mod Unlinked
pub mod Reach
pub mod Beside

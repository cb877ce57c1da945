pub mod Settling
pub mod Climbing
pub mod Saying

pub mod Climbing
pub mod Said

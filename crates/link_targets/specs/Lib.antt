pub mod Lines
pub mod Targets

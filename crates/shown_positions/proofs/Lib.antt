pub mod Says
pub mod Durations
pub mod Lines
pub mod Sound

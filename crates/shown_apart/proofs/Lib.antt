pub mod Fills
pub mod Same
pub mod Kept
pub mod Runs

pub mod Widths
pub mod Check

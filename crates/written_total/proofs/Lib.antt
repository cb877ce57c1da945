pub mod Total
pub mod Verdicts
pub mod Eleven
pub mod Broken
pub mod BreaksAlways

pub mod Seeks
pub mod Lines
pub mod Rows
pub mod Judged
pub mod Verdicts
pub mod Texts
pub mod Accepts

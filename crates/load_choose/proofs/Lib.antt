pub mod Words
pub mod Widths
pub mod Search
pub mod Named
pub mod Joined
pub mod Examples
pub mod Texts
pub mod Same

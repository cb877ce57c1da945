pub mod Spelled
pub mod Plain
pub mod OneText
pub mod Inside
pub mod Never
pub mod Again
pub mod ReadBack
pub mod Example

pub mod Example
pub mod Examples

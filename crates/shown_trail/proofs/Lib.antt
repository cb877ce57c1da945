pub mod Ends
pub mod Rows
pub mod Answers

pub mod Counting
pub mod Whole
pub mod Joined
pub mod Said
pub mod Rows

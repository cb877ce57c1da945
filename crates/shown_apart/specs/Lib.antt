pub mod Real
pub mod Calls

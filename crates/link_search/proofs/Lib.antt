pub mod Halves
pub mod Last
pub mod First
pub mod Ids

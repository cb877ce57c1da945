pub mod Slots
pub mod Rows
pub mod Queue
pub mod Laws
pub mod Visiting

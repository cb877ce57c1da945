pub mod Rows
pub mod Tests
pub mod Apart
pub mod Alone

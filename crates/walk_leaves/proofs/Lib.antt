pub mod Judged
pub mod Conditions
pub mod FromOne

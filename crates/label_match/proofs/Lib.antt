pub mod Matched
pub mod Laws
pub mod Examples

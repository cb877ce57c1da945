pub mod Judged
pub mod Round
pub mod Following
pub mod Bound
pub mod Loaded
pub mod Demand
pub mod Examples

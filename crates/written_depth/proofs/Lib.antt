pub mod Pigeonhole
pub mod Deepest
pub mod Paths

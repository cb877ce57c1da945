pub mod Face
pub mod Write
pub mod Depths
pub mod Sharing
pub mod Accepts
pub mod Trails

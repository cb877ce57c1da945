pub mod Laws
pub mod Determined
pub mod Depths
pub mod Sharing
pub mod Accepts
pub mod Housing

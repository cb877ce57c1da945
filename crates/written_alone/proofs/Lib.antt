pub mod Accepting
pub mod Metering
pub mod Shifted

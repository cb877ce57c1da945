pub mod Found
pub mod Parted
pub mod Index

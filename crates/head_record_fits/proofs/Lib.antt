pub mod Each
pub mod Fits
pub mod Inside
pub mod Said

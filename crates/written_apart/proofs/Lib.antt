pub mod Apart
pub mod ApartFile

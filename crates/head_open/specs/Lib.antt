pub mod Open
pub mod Left

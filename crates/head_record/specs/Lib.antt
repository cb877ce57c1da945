pub mod Empty
pub mod Lists
pub mod Record

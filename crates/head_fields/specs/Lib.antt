pub mod Fields
pub mod Names

pub mod Texts
pub mod Numbers
pub mod Says
pub mod Refused
pub mod Exactly

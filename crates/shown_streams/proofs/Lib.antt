pub mod Says
pub mod Sound

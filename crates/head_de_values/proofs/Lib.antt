pub mod Stands
pub mod Scalars
pub mod Moves
pub mod Sound

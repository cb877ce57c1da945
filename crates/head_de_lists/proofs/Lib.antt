pub mod Going
pub mod Moves
pub mod Sound
pub mod Firsts

pub mod Trailing
pub mod TrailerFits
pub mod TrailerTotal
pub mod TrailerExactly
pub mod TrailerApart
pub mod OneTree

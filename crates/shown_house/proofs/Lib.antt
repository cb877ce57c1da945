pub mod Trees
pub mod Names
pub mod Values
pub mod Rules
pub mod Types

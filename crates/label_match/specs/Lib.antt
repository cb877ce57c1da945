-- What a match is by computation; the parts of a pattern.
pub mod Matched
pub mod Parts

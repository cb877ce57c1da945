pub mod Longer
pub mod Named
pub mod LongerModels
pub mod OneModel
pub mod Openings
pub mod Numbers

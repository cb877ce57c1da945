-- Header files: at most one answer (One, OneFile, OneBlock); 01's sums (Sums).
pub mod Tests
pub mod One
pub mod OneFile
pub mod OneBlock
pub mod Sums
-- Tree text: at most one answer (Once), decided (Decide); linking (Link, Links, ModelOnce); tree rows (Folded); walks (Walk, Model).
pub mod Once
pub mod Decide
pub mod Link
pub mod Links
pub mod ModelOnce
pub mod Walk
pub mod Folded
pub mod Model
-- Answers from a label: at most one (Answers).
pub mod Answers
-- In small: the models of a voice and the house's rules (Voices), a trailer byte by byte (TrailerExample).
pub mod Voices
pub mod TrailerExample

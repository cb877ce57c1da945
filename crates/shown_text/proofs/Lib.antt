pub mod Words
pub mod OneTree
pub mod AllTrees
pub mod Text
pub mod Tables
pub mod Walks

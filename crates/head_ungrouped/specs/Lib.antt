pub mod Ungrouped

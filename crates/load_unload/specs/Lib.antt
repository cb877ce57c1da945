pub mod Unloads

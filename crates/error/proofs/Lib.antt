pub mod Never

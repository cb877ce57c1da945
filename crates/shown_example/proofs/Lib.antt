pub mod Small

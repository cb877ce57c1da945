pub mod Walking
pub mod Answer

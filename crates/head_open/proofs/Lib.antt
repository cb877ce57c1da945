pub mod Inside
pub mod Left

pub mod Survey
pub mod Said

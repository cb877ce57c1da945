pub mod Above
pub mod Laws

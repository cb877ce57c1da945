pub mod Housed
pub mod HouseDecided
pub mod HouseModels
pub mod HouseFile
pub mod HouseTotal
pub mod HouseExactly
pub mod HouseExample

pub mod Station
pub mod Plain
pub mod Laws

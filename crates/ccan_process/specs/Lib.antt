pub mod Process
pub mod Act
pub mod Laws

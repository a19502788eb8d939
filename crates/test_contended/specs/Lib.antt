pub mod Contended
pub mod Transfer

pub mod Scan
pub mod Watch
pub mod Moment
pub mod Laws
pub mod ScanRefused

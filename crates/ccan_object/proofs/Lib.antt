pub mod Parts
pub mod Flags
pub mod Words
pub mod Eight
pub mod ReadBack
pub mod RoundTrip

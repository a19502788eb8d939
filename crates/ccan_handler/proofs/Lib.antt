pub mod Scans
pub mod Watches
pub mod Moments
pub mod Own
pub mod Fitting
pub mod Rows
pub mod MomentLaws

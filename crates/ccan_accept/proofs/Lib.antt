pub mod Places
pub mod Acceptance
pub mod Shown

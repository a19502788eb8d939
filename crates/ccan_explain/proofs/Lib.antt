pub mod Capitals
pub mod Decimals
mod Lists
pub mod SoFar
pub mod StepRecords
pub mod StepsTaken
pub mod Turns

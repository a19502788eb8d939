pub mod Data
pub mod Json
pub mod PageText

pub mod Determined
pub mod WinsOnce
pub mod DecidesOnce
pub mod RunsOnce
pub mod RunsApart
pub mod Steps

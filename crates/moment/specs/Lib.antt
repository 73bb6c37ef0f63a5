pub mod Moments
pub mod Worth

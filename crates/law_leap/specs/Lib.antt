pub mod Over
pub mod Levels

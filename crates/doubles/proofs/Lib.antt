pub mod Patterns
pub mod OneOutcome

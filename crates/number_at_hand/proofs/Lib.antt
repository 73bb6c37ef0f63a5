pub mod Ready
pub mod OneOutcome

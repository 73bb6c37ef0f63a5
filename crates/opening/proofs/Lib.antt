pub mod OpeningSteps
pub mod OneOutcome

pub mod Passing
pub mod Turns
pub mod Exactly
pub mod OneOutcome

pub mod Joined
pub mod OneOutcome
pub mod Listed

pub mod Laws
pub mod Numbers
pub mod Steps
pub mod OneOutcome

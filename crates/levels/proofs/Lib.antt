pub mod Sums
pub mod Places
pub mod Closed
pub mod Chosen
pub mod OneOutcome

pub mod Laws
pub mod Numbered
pub mod Cleared
pub mod Untouched
pub mod Follows
pub mod OneOutcome

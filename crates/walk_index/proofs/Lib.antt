pub mod Numbers
pub mod Stores
pub mod Entries
pub mod Walks
pub mod Answers
pub mod OneOutcome

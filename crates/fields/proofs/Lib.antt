pub mod Width
pub mod Answers
pub mod Descents
pub mod Lists
pub mod OneOutcome

pub mod Ends
pub mod Steps
pub mod Entries
pub mod OneOutcome
pub mod Rooms

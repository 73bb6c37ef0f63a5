pub mod Tracks
pub mod Loops
pub mod Trafs
pub mod Moofs
pub mod Leaves
pub mod OneOutcome

pub mod Over
pub mod Leaps
pub mod Opening
pub mod Entries

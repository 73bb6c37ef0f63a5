pub mod Faults
pub mod Run
pub mod Heads
pub mod Lists
pub mod Limit

pub mod Picks
pub mod Tests
pub mod Options
pub mod Bytes
pub mod Outcomes
pub mod Put

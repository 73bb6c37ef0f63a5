pub mod Flaws
pub mod Marks
pub mod Places
pub mod Numbered
pub mod Headed
pub mod Shown
pub mod OneOutcome
pub mod Told

pub mod Flaws
pub mod Marks

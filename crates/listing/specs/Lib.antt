pub mod Text
pub mod Spelling

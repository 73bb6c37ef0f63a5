pub mod Told
pub mod Walks
pub mod Verdict
pub mod Demands

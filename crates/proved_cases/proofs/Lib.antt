pub mod Computing
pub mod Proved

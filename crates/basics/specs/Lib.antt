pub mod Choose
pub mod Bytes
pub mod Put
pub mod Headers
pub mod Outcome

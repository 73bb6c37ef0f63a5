pub mod Facts
pub mod Whole
pub mod Bits

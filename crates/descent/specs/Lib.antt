pub mod Sidx
pub mod Opening
pub mod Leaf
pub mod Whole

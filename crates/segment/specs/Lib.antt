pub mod Constants
pub mod Boxes
pub mod Leaves
pub mod Tree
pub mod Parts

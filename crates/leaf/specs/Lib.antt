pub mod Leaf
pub mod Rooms

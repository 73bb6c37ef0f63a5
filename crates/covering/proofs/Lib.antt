pub mod Edges
pub mod Covering
pub mod Wholes
pub mod Listed
pub mod TheLeaf
pub mod NeverGiven

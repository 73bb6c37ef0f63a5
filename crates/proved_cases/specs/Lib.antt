pub mod Segments
pub mod Cases

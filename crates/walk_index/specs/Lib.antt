pub mod Parts
pub mod Views

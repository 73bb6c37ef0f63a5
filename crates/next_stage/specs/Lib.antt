pub mod Views
pub mod Arms

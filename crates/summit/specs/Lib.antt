pub mod Calls
pub mod DemandsMet

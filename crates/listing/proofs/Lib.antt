pub mod Laws
pub mod OneOutcome
pub mod Decimal
pub mod LinesOfS

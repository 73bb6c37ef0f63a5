pub mod RoundTrip
pub mod Lengths
pub mod Unpacks
pub mod Facts

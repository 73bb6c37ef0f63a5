pub mod Summit
pub mod Readable

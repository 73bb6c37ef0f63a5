pub mod Goes
pub mod Begun

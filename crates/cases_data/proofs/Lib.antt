pub mod Alike
pub mod Lists

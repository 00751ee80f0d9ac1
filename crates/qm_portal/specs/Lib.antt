pub mod Exits
pub mod inner

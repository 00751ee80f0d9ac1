pub mod Gained
pub mod inner

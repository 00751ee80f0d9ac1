pub mod Corners
pub mod Vectors
pub mod inner

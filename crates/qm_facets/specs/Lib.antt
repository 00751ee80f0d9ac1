pub mod Body
pub mod Extent
pub mod inner

pub mod InBounds
pub mod inner

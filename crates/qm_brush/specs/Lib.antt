pub mod MovedBrushes
pub mod inner

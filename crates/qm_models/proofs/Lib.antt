pub mod AddedBrushes
pub mod EntityModels
pub mod BoundSamples

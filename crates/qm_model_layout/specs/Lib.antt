pub mod BrushModel
pub mod ModelFaults
pub mod ModelLayout

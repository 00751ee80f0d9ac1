pub mod Counted
pub mod Finished
pub mod FlatCount
pub mod Flooded
pub mod KeptBrushes
pub mod NewFile
pub mod Prepared

pub mod Pieces
pub mod CellPlanes
pub mod CellFragments
pub mod SplitCounts
pub mod inner

pub mod PushedPolygons
pub mod CellSections
pub mod AxialBounds
pub mod AddedPairs
pub mod VisitedCells
pub mod LinkedLeaves
pub mod FilledRows
pub mod LeafExits

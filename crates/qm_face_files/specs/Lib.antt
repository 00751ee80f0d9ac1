pub mod ReadFaces
pub mod BoundaryFaces

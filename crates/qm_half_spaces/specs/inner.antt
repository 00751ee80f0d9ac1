pub mod AxialPlanes
pub mod PartedBodies

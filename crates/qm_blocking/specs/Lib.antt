pub mod Moved
pub mod Boxes
pub mod Blocking
pub mod MovedSolids
pub mod HullContents

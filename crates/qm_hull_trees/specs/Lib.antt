pub mod HullBoxes
pub mod HullTree
pub mod Hull

pub mod AxialCells
pub mod HalvesLeft
pub mod WidenedExtents

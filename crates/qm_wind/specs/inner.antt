pub mod Surveyed
pub mod Finding
pub mod Held
pub mod AxialCells
pub mod Across
pub mod Before

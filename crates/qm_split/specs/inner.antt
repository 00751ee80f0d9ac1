pub mod Ranks
pub mod Ranked
pub mod PieceParts
pub mod FacePieces
pub mod Parts
pub mod CubeParts
pub mod Gathered
pub mod Halves

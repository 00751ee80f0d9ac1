pub mod Faults
pub mod Answered
pub mod NamedNumbers
pub mod CornerTests
pub mod WallDistances
pub mod WallNumbers
pub mod PlanesOnWalls

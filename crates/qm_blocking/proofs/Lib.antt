pub mod MovedPlanes
pub mod MovedParts
pub mod Obstacles
pub mod MovingBoxes

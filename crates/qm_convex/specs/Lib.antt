pub mod Winding
pub mod Rotation
pub mod Sides
pub mod Cut
pub mod World
pub mod Section
pub mod Vertex
pub mod inner

pub mod NamedPlanes
pub mod TurnedCorners
pub mod inner

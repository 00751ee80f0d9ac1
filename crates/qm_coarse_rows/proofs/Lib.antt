pub mod PortalSides
pub mod RoomSamples

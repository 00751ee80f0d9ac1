pub mod FaceSizes
pub mod MapSurfaces
pub mod ValidFacesOfMap

pub mod PlaneNumbers
pub mod ValidFace
pub mod FacesLayout
pub mod FaceFaults
pub mod FaceCorners

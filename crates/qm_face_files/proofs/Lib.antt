pub mod KeptFaces
pub mod FaceLaws

pub mod ValidFaces
pub mod Entries
pub mod Entered
pub mod Added
pub mod MovedAdded
pub mod FaceParts
pub mod Fullness

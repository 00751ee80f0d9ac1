pub mod HeldPoints
pub mod ModelLeaves
pub mod Outlines
pub mod Models
pub mod ShownModels
pub mod inner

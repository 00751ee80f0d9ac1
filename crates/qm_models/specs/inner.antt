pub mod BehindFaces
pub mod OneModel

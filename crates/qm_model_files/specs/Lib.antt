pub mod ReadModels
pub mod ExactModels
pub mod SeenModels

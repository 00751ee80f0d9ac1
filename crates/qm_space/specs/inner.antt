pub mod CommonDirection
pub mod SpannedSizes
pub mod LeastDistanceOf

pub mod NeverLeaks
pub mod Walls

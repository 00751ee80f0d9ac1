pub mod Brushes
pub mod Planes
pub mod Solids

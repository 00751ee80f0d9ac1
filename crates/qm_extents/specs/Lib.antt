pub mod Filled
pub mod Extents

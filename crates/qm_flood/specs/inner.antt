pub mod Spreading
pub mod Stepping
pub mod Filling

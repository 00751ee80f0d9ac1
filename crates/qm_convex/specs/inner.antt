pub mod FrontRun
pub mod Parallelogram
pub mod Square
pub mod Facets

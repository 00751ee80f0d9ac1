pub mod BrushCounts
pub mod Outcomes
pub mod PutOuts
pub mod ReadMaps
pub mod ReadMeanings
pub mod Upgrades
pub mod Writings

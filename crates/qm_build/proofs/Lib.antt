pub mod DefinedTrees
pub mod BuiltTrees
pub mod LeastPlanes
pub mod Walks
pub mod WalkedHalves
pub mod Visits
pub mod Weights

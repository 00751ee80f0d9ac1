pub mod ReachedBelow
pub mod Walks
pub mod FoundLeaves
mod HalvesSamples

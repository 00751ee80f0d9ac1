pub mod HullContents
pub mod BoxesOfHulls
pub mod Samples
pub mod PlainSamples

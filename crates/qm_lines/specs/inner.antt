pub mod Crossing
pub mod Drawing
pub mod Trace

pub mod Place
pub mod Spans
pub mod SegmentTrace
pub mod Partings
pub mod ComputedSpans
pub mod inner

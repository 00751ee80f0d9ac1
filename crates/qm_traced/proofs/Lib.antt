pub mod SegmentPoints
pub mod PointsInSolids
pub mod SpanLaws

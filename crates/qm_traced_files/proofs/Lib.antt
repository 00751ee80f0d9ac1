pub mod HullSpans
pub mod KeptHulls
pub mod MapSpanLaws

pub mod Within
pub mod SpanLeaves

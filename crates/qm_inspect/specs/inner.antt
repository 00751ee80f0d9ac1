pub mod BlockCounts
pub mod RunWords

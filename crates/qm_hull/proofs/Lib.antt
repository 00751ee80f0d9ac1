pub mod OneHull
pub mod BuiltHulls

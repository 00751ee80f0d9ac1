pub mod ReachedLeaves
pub mod inner

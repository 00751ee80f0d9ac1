pub mod WordInSight
pub mod InCeiling
pub mod RowsOfWorld
pub mod WaysOn
pub mod inner

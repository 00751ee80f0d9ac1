pub mod Beginning
pub mod GoingDown
pub mod GoingOn
pub mod TakingPart

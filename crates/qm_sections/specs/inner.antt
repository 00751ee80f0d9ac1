pub mod PartsAdded
pub mod SectionsThatFit
pub mod SmallPieces

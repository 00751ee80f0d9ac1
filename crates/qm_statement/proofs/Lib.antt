pub mod Completeness
pub mod KeptFiles
pub mod LedLines
pub mod OwnFiles
pub mod SectionsOfKinds
pub mod TornFiles
pub mod Unfinished

pub mod NinePoints
pub mod WordLaws
pub mod Meanings
pub mod OriginPoints
pub mod Means
pub mod DueMarks
pub mod OriginFlags

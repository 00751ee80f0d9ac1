pub mod Division
pub mod TreeOf
pub mod GivesContents

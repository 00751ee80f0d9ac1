pub mod Sizes
pub mod WithinCeilings
pub mod WordsOfRows
pub mod RowsOfWords

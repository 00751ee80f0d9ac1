pub mod Counted
pub mod Pieces

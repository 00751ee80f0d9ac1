pub mod NumberedPieces

pub mod Lexeme
pub mod Piece
pub mod Lexing
pub mod Reading
pub mod inner

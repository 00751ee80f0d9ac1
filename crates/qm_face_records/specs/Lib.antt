pub mod PiecesInBook
pub mod inner

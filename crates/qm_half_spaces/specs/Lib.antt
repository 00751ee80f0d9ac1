pub mod HalfCells
pub mod inner

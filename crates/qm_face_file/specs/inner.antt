pub mod InBook
pub mod OnWalls

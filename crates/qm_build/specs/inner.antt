pub mod Tops
pub mod UnderWay
pub mod Visited
pub mod Waiting
pub mod WalkedCells

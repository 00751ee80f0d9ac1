pub mod Counts
pub mod HeldFile
pub mod Printing
pub mod ShelfChanges
pub mod ShelfState
pub mod SinkState
pub mod Surroundings
pub mod WholeFiles

pub mod Pushes
pub mod Cells
pub mod Walks
pub mod Links
pub mod WorldExits

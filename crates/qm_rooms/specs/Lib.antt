pub mod Boxes
pub mod Rooms

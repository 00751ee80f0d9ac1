pub mod Ending
pub mod Made
pub mod Reading
pub mod PutOut
pub mod Writing

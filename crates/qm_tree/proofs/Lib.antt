pub mod TakenChildren
pub mod Filled

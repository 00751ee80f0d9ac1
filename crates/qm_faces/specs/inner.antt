pub mod Rows
pub mod Cuts

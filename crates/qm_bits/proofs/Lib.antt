pub mod Rows
pub mod Counts
pub mod Changes
pub mod News

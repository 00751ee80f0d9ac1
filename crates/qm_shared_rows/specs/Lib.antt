pub mod RowSets
pub mod Findings
pub mod SharedRows
pub mod Opening
pub mod Steps
pub mod Sound
pub mod Runs

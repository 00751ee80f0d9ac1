pub mod RowsRead
pub mod RowsReplaced
pub mod WaysOnLaws

pub mod RowsBytes
pub mod SeenHeader

pub mod SameRows

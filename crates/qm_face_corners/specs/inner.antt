pub mod CornerParts
pub mod KeptNumbers

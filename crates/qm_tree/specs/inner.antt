pub mod TakesTwo
pub mod MarkedBelow

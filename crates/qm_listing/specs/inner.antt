pub mod GoneRound
pub mod PutLines

pub mod Shown
pub mod Turns
pub mod TurnLists
pub mod inner

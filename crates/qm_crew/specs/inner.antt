pub mod PassOver
pub mod TurnsTaken
pub mod Ready

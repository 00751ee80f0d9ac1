pub mod DueBodies

pub mod Lexed
pub mod LinesLexed
pub mod Numbers
pub mod FacesAgain
pub mod EntitiesAgain
pub mod ReadAgain
mod Parts

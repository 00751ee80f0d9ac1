pub mod OneAnswer
pub mod Written
pub mod Answered
pub mod NonzeroParts

pub mod Cone
pub mod Frame
pub mod Narrowing
pub mod OwnRows
pub mod Pairs
pub mod Search
pub mod Walk
pub mod Wanted

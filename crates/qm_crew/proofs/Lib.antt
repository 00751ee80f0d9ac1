pub mod TakenTurns
pub mod WorkLists
pub mod SettledPortals
pub mod CrewRows

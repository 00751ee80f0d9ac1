pub mod ChildTowards
pub mod Grown
pub mod TreeCode
pub mod JoinedWalk
pub mod RootChild
pub mod Parts
pub mod LeavesInFront
pub mod PlacedPart

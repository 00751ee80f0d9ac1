pub mod InFront
pub mod Bodies
pub mod BodyCuboids
pub mod Joining
pub mod JoinedCorners
pub mod MorePlanes
mod BoxSamples

pub mod Values
pub mod Crossings
pub mod Asking
pub mod Traces
pub mod Drawing
pub mod RoomLines

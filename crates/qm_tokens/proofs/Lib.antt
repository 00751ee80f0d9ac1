pub mod ByteSteps
pub mod PieceRuns
pub mod Cutting
pub mod Standing
pub mod LaterTokens

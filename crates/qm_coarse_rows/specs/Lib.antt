pub mod CoarseRow
pub mod LeafRow
pub mod Seen

pub mod CutParts
pub mod OwnersFound
pub mod RowsOfOwners
pub mod PairsThere

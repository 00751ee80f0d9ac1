pub mod CutTrees
pub mod FaceRecords
pub mod MapFaces
pub mod FaceBytes

pub mod MapFaces

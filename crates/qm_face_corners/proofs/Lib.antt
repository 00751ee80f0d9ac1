pub mod CornersFrom

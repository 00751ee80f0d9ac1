pub mod CutFacets

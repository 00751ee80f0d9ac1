pub mod LeftFacets

pub mod Face
pub use Rattle.qm_space.specs.Point
pub use Rattle.qm_space.specs.Plane
pub use Rattle.qm_space.specs.Reduced
pub use Rattle.qm_space.specs.ThreePoints

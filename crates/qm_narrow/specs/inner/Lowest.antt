use Rattle.std.specs.Prelude.{◌≡◌, ℤ, pos, ◌<ℤ◌}
use Rattle.qm_space.specs.Point.{Point, point_times}
use Rattle.qm_space.specs.Plane.{Plane}
use Rattle.qm_space.specs.Vector.{normal_of}
use Rattle.qm_space.specs.Reduced.{HasSmallNormal}
use Rattle.qm_space.specs.ThreePoints.{outward_plane}
use Rattle.qm_geom.specs.declared.vector.Vector.{Vector}
use Rattle.qm_geom.specs.Vectors.{direction_of}
use Rattle.qm_separators.specs.Across.{HasLowestNormal, HasNormalOf}

-- Normals in lowest terms.

-- the plane through the origin with this normal
abbrev pub level : Vector → Plane
level n = record { nx = n.x; ny = n.y; nz = n.z; d = pos 0 }

-- the normal is a positive multiple of the plane's, which is in lowest terms and small
pub record IsLowestOf (n : Vector) (h : Plane) : Type 0 where
  pub factor : ℤ
  pub positive : pos 0 <ℤ factor
  pub multiple : direction_of n ≡ point_times factor (normal_of h)
  pub lowest : HasLowestNormal h
  pub small : HasSmallNormal h

-- no plane with a small normal has the normal of points through which this one goes
abbrev pub HasNoLowest : Vector → Type 0
HasNoLowest n = (at from to : Point) (h : Plane) → direction_of n ≡ normal_of (outward_plane at from to) → HasNormalOf at from to h → HasSmallNormal h → ⊥

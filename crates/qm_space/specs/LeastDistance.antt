use Rattle.std.specs.Prelude.{ℤ, pos, ◌≤◌, ◌≤ℤ◌, ◌<ℤ◌, ◌+ℤ◌, ◌*ℤ◌, unsigned_abs, List, slice_index_or}
use Rattle.std.specs.List.{All, Any}
use Rattle.qm_space.specs.Bounds.{normal_bound}
use Rattle.qm_space.specs.Point.{Point}
use Rattle.qm_space.specs.Plane.{Plane, IsInFront, IsNotInFront}

-- the plane with this normal at a distance
abbrev pub plane_at_distance : List ℤ → ℤ → Plane
plane_at_distance normal d = record {
  nx = slice_index_or normal 0 (pos 0);
  ny = slice_index_or normal 1 (pos 0);
  nz = slice_index_or normal 2 (pos 0);
  d = d;
}

-- the components of a normal times the numerators of a point, added up: the value at the point, but for the distance
unfoldable pub product_along : List ℤ → Point → ℤ
product_along normal p =
    ((slice_index_or normal 0 (pos 0) *ℤ p.x) +ℤ (slice_index_or normal 1 (pos 0) *ℤ p.y)) +ℤ (slice_index_or normal 2 (pos 0) *ℤ p.z)

-- a component of a normal
abbrev pub IsComponent : ℤ → Type 0
IsComponent n = unsigned_abs n ≤ normal_bound

-- at this distance and any greater no corner is in front of the plane, and at any lesser distance some corner is
pub record IsLeastDistance (normal : List ℤ) (corners : List Point) (least : ℤ) : Type 0 where
  pub none_in_front : (d : ℤ) → least ≤ℤ d → All (λ p. IsNotInFront (plane_at_distance normal d) p) corners
  pub some_in_front : (d : ℤ) → d <ℤ least → Any (λ p. IsInFront (plane_at_distance normal d) p) corners

use Rattle.std.specs.Prelude.{◌≡◌, false, ◌*◌, List, ℤ, pos, ◌+ℤ◌, ◌*ℤ◌, ◌≤ℤ◌, ℕ, slice_index_or}
use Rattle.qm_space.specs.Bounds.{world_extent, whole_normal_bound}
use Rattle.qm_space.specs.Plane.{Plane}
use Rattle.qm_space.specs.Cuboid.{Stretch, least_product, greatest_product}
use Rattle.qm_convex.specs.Winding.{Winding}
use Rattle.qm_convex.specs.Sides.{HasNoCornerInFront, HasNoCornerBehind}
use Rattle.qm_geom.specs.declared.vector.Vector.{Vector}
use Rattle.qm_narrow.specs.declared.reach.Reach.{Reach}
use Rattle.qm_narrow.specs.declared.outlook.Outlook.{Outlook}
use Rattle.qm_narrow.specs.declared.spot.Spot.{Spot}
use Rattle.qm_narrow.specs.inner.Trace.{fine_units}

-- A look at a normal before it is brought to lowest terms: whether planes with it can part two windings at all, as far as
-- whole points near their corners tell.

-- a component of the normal times a coordinate
abbrev pub look_product_bound : ℕ
look_product_bound = whole_normal_bound * world_extent

-- what the normal has along a whole point
abbrev pub look_bound : ℕ
look_bound = 3 * look_product_bound

-- the plane with the normal at a distance
abbrev pub at_distance : Vector → ℤ → Plane
at_distance n d = record { nx = n.x; ny = n.y; nz = n.z; d = d }

-- across one axis, from the coordinate of the one whole point to that of the other
abbrev pub stretch_between : List ℤ → List ℤ → ℕ → Stretch
stretch_between low high axis = record { low = slice_index_or low axis (pos 0); high = slice_index_or high axis (pos 0) }

-- from a coordinate rounded down to it rounded up
abbrev pub stretch_of : Spot → ℕ → Stretch
stretch_of spot axis = stretch_between spot.below spot.above axis

-- the least that the normal has along a point between two whole points
unfoldable pub least_between : Vector → List ℤ → List ℤ → ℤ
least_between n low high = (least_product n.x (stretch_between low high 0) +ℤ least_product n.y (stretch_between low high 1)) +ℤ least_product n.z (stretch_between low high 2)

-- the least and the greatest that it has along a point between the whole points below and above a corner
abbrev pub least_along : Vector → Spot → ℤ
least_along n spot = least_between n spot.below spot.above

unfoldable pub greatest_along : Vector → Spot → ℤ
greatest_along n spot = (greatest_product n.x (stretch_of spot 0) +ℤ greatest_product n.y (stretch_of spot 1)) +ℤ greatest_product n.z (stretch_of spot 2)

-- a plane with the normal that has no corner of the winding in front has at least the low distance, and one that has none
-- behind has at most the high one
pub record IsReach (v : Winding) (n : Vector) (reach : Reach) : Type 0 where
  pub low : (d : ℤ) → HasNoCornerInFront v (at_distance n d) → reach.low ≤ℤ d
  pub high : (d : ℤ) → HasNoCornerBehind v (at_distance n d) → d ≤ℤ reach.high

-- the same in fine units
pub record IsFineReach (v : Winding) (n : Vector) (reach : Reach) : Type 0 where
  pub low : (d : ℤ) → HasNoCornerInFront v (at_distance n d) → reach.low ≤ℤ (fine_units *ℤ d)
  pub high : (d : ℤ) → HasNoCornerBehind v (at_distance n d) → (fine_units *ℤ d) ≤ℤ reach.high

-- no plane with the normal has no corner of the one winding in front and none of the other behind
abbrev pub PartsNowhere : Winding → Winding → Vector → Type 0
PartsNowhere source pass n = (d : ℤ) → HasNoCornerInFront source (at_distance n d) → HasNoCornerBehind pass (at_distance n d) → ⊥

-- the outlook tells of planes with the normal: they have no corner of the one winding in front and none of the other behind
-- only where it says so ahead, and the other way round only where it does so back
pub record IsOutlook (one other : Winding) (n : Vector) (outlook : Outlook) : Type 0 where
  pub ahead : outlook.ahead ≡ false → PartsNowhere one other n
  pub back : outlook.back ≡ false → PartsNowhere other one n

-- the reach, with distances counted from a base, is that of a winding
abbrev pub IsReachFrom : Winding → Vector → ℤ → Reach → Type 0
IsReachFrom v n base reach = IsReach v n (record { low = reach.low +ℤ base; high = reach.high +ℤ base })

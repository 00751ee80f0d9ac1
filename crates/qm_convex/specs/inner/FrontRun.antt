use Rattle.std.specs.Prelude.{ℕ, suc, ◌-◌, ◌<◌, ◌≤◌, [], ◌∷◌, ◌++◌, length, take}
use Rattle.qm_space.specs.Plane.{Plane, IsInFront, IsNotInFront}
use Rattle.qm_convex.specs.Winding.{Winding, next_place, corner_at}
use Rattle.qm_convex.specs.Rotation.{place_after, rotated}

-- From the place `start` on, so many corners in a row are in front of the plane; the one before them and the one after
-- them are not.
pub record IsFrontRun (v : Winding) (g : Plane) (start count : ℕ) : Type 0 where
  pub in_range : start < length v.edges
  pub some : 1 ≤ count
  pub not_all : count < length v.edges
  pub front : (k : ℕ) → k < count → IsInFront g (corner_at v (place_after (length v.edges) start k))
  pub ended : IsNotInFront g (corner_at v (place_after (length v.edges) start count))
  pub began : IsNotInFront g (corner_at v (place_after (length v.edges) start (length v.edges - 1)))

-- from the corner at the place i to the next one the border comes to the front of the plane, or leaves it

abbrev pub EntersFrontAt : Winding → Plane → ℕ → Type 0
EntersFrontAt v g i = IsNotInFront g (corner_at v i) × IsInFront g (corner_at v (next_place (length v.edges) i))

abbrev pub LeavesFrontAt : Winding → Plane → ℕ → Type 0
LeavesFrontAt v g i = IsInFront g (corner_at v i) × IsNotInFront g (corner_at v (next_place (length v.edges) i))

-- the winding cut down to the front of the plane, by the run of its corners in front: the edges at these corners, and
-- the plane itself for the new edge
abbrev pub cut : Winding → Plane → ℕ → ℕ → Winding
cut v g start count = record { plane = v.plane; edges = take (suc count) (rotated start v).edges ++ g ∷ [] }

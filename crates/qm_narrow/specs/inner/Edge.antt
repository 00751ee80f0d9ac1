use Rattle.std.specs.Prelude.{◌≡◌, ◌⊎◌, ◌<◌, ℕ, Bool, true, false, length}
use Rattle.qm_numbers.specs.Rounding.{IsNearest}
use Rattle.qm_space.specs.Coordinates.{AreCoordinatesBy}
use Rattle.qm_convex.specs.Winding.{Winding, corner_at, next_place, IsConvex}
use Rattle.qm_narrow.specs.declared.edge.Edge.{Edge}
use Rattle.qm_narrow.specs.inner.Trace.{IsSpotOf}
use Rattle.qm_narrow.specs.declared.spot.Spot.{Spot}

-- The edge of a candidate, as a look takes it.

-- the whole points are near some corner of the winding
pub record IsSpotIn (v : Winding) (spot : Spot) : Type 0 where
  pub place : ℕ
  pub place_in : place < length v.edges
  pub near : IsSpotOf (corner_at v place) spot

-- it is the winding's edge at the place, and the corner beside it is one of the winding
pub record HasEdge (v : Winding) (i : ℕ) (edge : Edge) : Type 0 where
  pub convex : IsConvex v
  pub place_in : i < length v.edges
  pub first : IsSpotOf (corner_at v i) edge.first
  pub from_is : AreCoordinatesBy IsNearest (corner_at v i) edge.from
  pub to_is : AreCoordinatesBy IsNearest (corner_at v (next_place (length v.edges) i)) edge.to
  pub beside : IsSpotIn v edge.beside

-- the winding is the pass where the flag is set, and the source where it is not
abbrev pub IsOwner : Winding → Winding → Winding → Bool → Type 0
IsOwner source pass v of_pass = ((of_pass ≡ false) × (v ≡ source)) ⊎ ((of_pass ≡ true) × (v ≡ pass))

use Rattle.std.specs.Prelude.{◌<◌, ℕ, Bool, length}
use Rattle.qm_space.specs.Point.{Point}
use Rattle.qm_space.specs.Plane.{Plane}
use Rattle.qm_convex.specs.Winding.{Winding, next_place, corner_at}
use Rattle.qm_listing.specs.Turning.{TurnToFront}
use Rattle.qm_face_layout.specs.FaceCorners.{place_on}

-- Which way the corners of a face go round.

-- the corner of a winding so many steps from a place on, backward or not
abbrev pub corner_on : Winding → Bool → ℕ → ℕ → Point
corner_on w backward first steps = corner_at w (place_on backward (length w.edges) first steps)

-- with each corner and the two that follow, (c0 - c1) × (c2 - c1) points to the front of a plane
abbrev pub TurnTo : Plane → Winding → Bool → ℕ → Type 0
TurnTo into w backward first =
    (i : ℕ) → i < length w.edges →
    let next = next_place (length w.edges) i in
    TurnToFront into (corner_on w backward first i) (corner_on w backward first next) (corner_on w backward first (next_place (length w.edges) next))

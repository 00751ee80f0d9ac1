use Rattle.std.specs.Prelude.{◌≡◌, ℕ, ℤ, Bool, true, false, not, List, [], ◌∷◌, length, slice_get, Some}
use Rattle.qm_space.specs.Plane.{Plane}
use Rattle.qm_space.specs.Turned.{turned}
use Rattle.qm_convex.specs.Winding.{Winding, edge_at, edge_after}
use Rattle.qm_convex.specs.Rotation.{place_after}
use Rattle.qm_listing.specs.WorldListing.{place_back, IsFirstCorner}
use Rattle.qm_face_layout.specs.PlaneNumbers.{IsPlaneNumber}

-- The corners of a face by a polygon: they begin with the one that comes first, and go round clockwise, as seen from the side that
-- the face faces. So they go backward where that is the front of the polygon's own plane.

-- the place i steps from a place on, backward or not, of n places in a circle
abbrev pub place_on : Bool → ℕ → ℕ → ℕ → ℕ
place_on true n first i = place_back n first i
place_on false n first i = place_after n first i

-- of the two edges of a corner the one that holds the next corner of the winding, or the one that holds the corner before
abbrev pub edge_towards : Bool → Winding → ℕ → Plane
edge_towards true w k = edge_after w k
edge_towards false w k = edge_at w k

-- the corner of a winding at a place, by the numbers of its planes, where corners go backward or not
pub record IsNumberedCorner (planes : List Plane) (bound : ℕ) (w : Winding) (backward : Bool) (k : ℕ) (corner : List ℤ) : Type 0 where
  pub own : ℤ
  pub before : ℤ
  pub next : ℤ
  pub corner_is : corner ≡ own ∷ before ∷ next ∷ []
  pub own_is : IsPlaneNumber planes bound w.plane own
  pub before_is : IsPlaneNumber planes bound (edge_towards backward w k) before
  pub next_is : IsPlaneNumber planes bound (edge_towards (not backward) w k) next

-- these are corners of a winding from a place on, backward or not
abbrev pub AreCornersFrom : List Plane → ℕ → Winding → Bool → ℕ → List (List ℤ) → Type 0
AreCornersFrom planes bound w backward first corners =
    (i : ℕ) (corner : List ℤ) → slice_get corners i ≡ Some corner → IsNumberedCorner planes bound w backward (place_on backward (length w.edges) first i) corner

-- the corners of a face by a winding and its plane, turned to the side that it faces
pub record AreNumberedCorners (planes : List Plane) (bound : ℕ) (w : Winding) (into : Plane) (corners : List (List ℤ)) : Type 0 where
  pub in_front : Bool
  pub into_is : into ≡ turned in_front w.plane
  pub first : ℕ
  pub first_is : IsFirstCorner w first
  pub count : length corners ≡ length w.edges
  pub each : AreCornersFrom planes bound w in_front first corners

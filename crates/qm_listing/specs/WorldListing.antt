use Rattle.std.specs.Prelude.{◌≡◌, ℕ, ◌+◌, ◌-◌, ◌*◌, ◌/◌, ◌%◌, ◌<◌, ℤ, unsigned_abs, Bool, false, not, ◌&&◌, ◌||◌, ◌==◌, nat_le, int_lt, List, [], ◌∷◌, map, length, slice_get, Some, if◌then◌else◌}
use Rattle.std.specs.List.{range_with_len}
use Rattle.qm_space.specs.Point.{Point}
use Rattle.qm_convex.specs.Winding.{Winding, corner_at}
use Rattle.qm_numerals.specs.Printed.{millionths}
use Rattle.qm_contacts.specs.NumberedLeaves.{numbered_leaves}
use Rattle.qm_contacts.specs.Portals.{Portal}
use Rattle.qm_contacts.specs.World.{World}
use Rattle.qm_listing.specs.declared.listing.Coordinate.{Coordinate}
use Rattle.qm_listing.specs.declared.listing.PrtPortal.{PrtPortal}
use Rattle.qm_listing.specs.declared.listing.Listing.{Listing}
use Rattle.qm_numbers.specs.Sign.{is_negative}
use Rattle.qm_listing.specs.Numbers.{with_sign}

-- The listings of a world. It has more than one only where corners of a portal are the same to the nearest millionth.

-- over / under in millionths, to the nearest, and a half away from 0; whether it is whole, exactly
unfoldable pub coordinate_at : ℤ → ℤ → Coordinate
coordinate_at over under = record {
  millionths = with_sign (is_negative over) (millionths (unsigned_abs over) (unsigned_abs under));
  whole = unsigned_abs over % unsigned_abs under == 0;
}

-- the three coordinates of a point
abbrev pub coordinates_at : Point → List Coordinate
coordinates_at p = coordinate_at p.x p.w ∷ coordinate_at p.y p.w ∷ coordinate_at p.z p.w ∷ []

-- coordinates come before others where they are less in the first place in which they differ
abbrev pub come_before : List Coordinate → List Coordinate → Bool
come_before [] others = false
come_before (c ∷ cs) [] = false
come_before (c ∷ cs) (d ∷ ds) =
    int_lt c.millionths d.millionths || (not (int_lt d.millionths c.millionths) && come_before cs ds)

-- the place i steps before the place k, of n places in a circle
unfoldable pub place_back : ℕ → ℕ → ℕ → ℕ
place_back n k i = if nat_le i k then k - i else (n + k) - i

-- the corners of a winding from the one at a place on, each before the one that the winding has before it: so they go
-- round clockwise, as seen from the front of the winding's plane
unfoldable pub corners_back : Winding → ℕ → List (List Coordinate)
corners_back w k = map (λ i. coordinates_at (corner_at w (place_back (length w.edges) k i))) (range_with_len 0 (length w.edges))

-- no corner of the winding comes before the one at the place
pub record IsFirstCorner (w : Winding) (k : ℕ) : Type 0 where
  pub within : k < length w.edges
  pub first : (i : ℕ) → i < length w.edges → come_before (coordinates_at (corner_at w i)) (coordinates_at (corner_at w k)) ≡ false

-- the line of a portal from the leaf in front of its polygon to the leaf behind it
pub record IsLineOf (portal : Portal) (line : PrtPortal) : Type 0 where
  pub first : ℕ
  pub first_is : IsFirstCorner portal.winding first
  pub corners : line.corners ≡ corners_back portal.winding first
  pub leaf0 : line.leaf0 ≡ portal.from
  pub leaf1 : line.leaf1 ≡ portal.to

-- of portals, two for each passage, the lines: each is that of the first portal of a passage, from front to back
pub record AreLinesOf (portals : List Portal) (lines : List PrtPortal) : Type 0 where
  pub each : (j : ℕ) (line : PrtPortal) → slice_get lines j ≡ Some line → (portal : Portal) × (slice_get portals (2 * j) ≡ Some portal) × IsLineOf portal line

-- the numbered leaves are counted, and each passage has its line, in the order of the portals
pub record IsListingOf (world : World) (listing : Listing) : Type 0 where
  pub leaves : listing.leaves ≡ length (numbered_leaves world.tree)
  pub count : length listing.portals ≡ length world.portals / 2
  pub lines : AreLinesOf world.portals listing.portals

use Rattle.std.specs.Prelude.{ℕ, ℤ, pos, negsuc, unsigned_abs, ◌==◌, List, [], ◌∷◌, ◌++◌, slice_index_or, Option, Some, if◌then◌else◌}
use Rattle.qm_numbers.specs.Sign.{is_negative}
use Rattle.qm_space.specs.Point.{Point, point_times}
use Rattle.qm_space.specs.Plane.{Plane}
use Rattle.qm_space.specs.Meet.{meet}
use Rattle.qm_listing.specs.declared.listing.Coordinate.{Coordinate}
use Rattle.qm_listing.specs.Numbers.{coordinate_numeral}
use Rattle.qm_listing.specs.WorldListing.{coordinates_at}
use Rattle.qm_face_layout.specs.PlaneNumbers.{named_plane}

-- How the corners of faces are printed: as those of portals in a listing.

-- the coordinates of the point in which planes meet, whatever the sign of its w; planes that do not meet in just one point have
-- none
abbrev pub coordinates_of_meeting : Point → List Coordinate
coordinates_of_meeting p =
    if unsigned_abs p.w == 0 then [] else coordinates_at (if is_negative p.w then point_times (negsuc 0) p else p)

-- those of three planes; planes that are not there have none
abbrev pub coordinates_of_planes : Option Plane → Option Plane → Option Plane → List Coordinate
coordinates_of_planes (Some a) (Some b) (Some c) = coordinates_of_meeting (meet a b c)
coordinates_of_planes _ _ _ = []

-- the coordinates of a corner of a face, by the numbers of its planes
unfoldable pub coordinates_of_corner : List Plane → ℕ → List ℤ → List Coordinate
coordinates_of_corner planes bound corner =
    coordinates_of_planes (named_plane planes bound (slice_index_or corner 0 (pos 0))) (named_plane planes bound (slice_index_or corner 1 (pos 0))) (named_plane planes bound (slice_index_or corner 2 (pos 0)))

-- coordinates, each with a space behind it
abbrev pub spaced_coordinates : List Coordinate → List ℕ
spaced_coordinates [] = []
spaced_coordinates (coordinate ∷ coordinates) = (coordinate_numeral coordinate ++ (32 ∷ [])) ++ spaced_coordinates coordinates

-- the same between brackets
unfoldable pub bracketed : List Coordinate → List ℕ
bracketed coordinates = 40 ∷ (spaced_coordinates coordinates ++ (41 ∷ []))

-- the corners of a face, each after a space
abbrev pub spaced_corners : List Plane → ℕ → List (List ℤ) → List ℕ
spaced_corners planes bound [] = []
spaced_corners planes bound (corner ∷ corners) = (32 ∷ bracketed (coordinates_of_corner planes bound corner)) ++ spaced_corners planes bound corners

use Rattle.std.specs.Prelude.{ℕ, List, [], map, length, slice_index_or}
use Rattle.std.specs.List.{range_with_len}
use Rattle.qm_convex.specs.Winding.{Winding, corner_at}
use Rattle.qm_listing.specs.declared.listing.Coordinate.{Coordinate}
use Rattle.qm_listing.specs.WorldListing.{coordinates_at, place_back}

-- the coordinates of the first so many corners of a winding, in the order of its edges, and of all
abbrev pub first_corners : Winding → ℕ → List (List Coordinate)
first_corners w count = map (λ i. coordinates_at (corner_at w i)) (range_with_len 0 count)

abbrev pub corners_forward : Winding → List (List Coordinate)
corners_forward w = first_corners w (length w.edges)

-- corners in a circle, from the place k on backward, the first so many of them
abbrev pub steps_back : List (List Coordinate) → ℕ → ℕ → List (List Coordinate)
steps_back corners k count = map (λ i. slice_index_or corners (place_back (length corners) k i) []) (range_with_len 0 count)

use Rattle.std.specs.Prelude.{pos, ◌<ℤ◌, List, All, Contains, ◌↔◌}
use Rattle.qm_space.specs.Point.{Point}
use Rattle.qm_space.specs.Plane.{Plane}
use Rattle.qm_space.specs.Cell.{IsInCell}
use Rattle.qm_space.specs.Multiple.{HasSameSides}
use Rattle.qm_space.specs.Cube.{cube_walls}
use Rattle.qm_convex.specs.inner.Facets.{Facet, AreFacetsOn}
use Rattle.qm_partition.specs.Partition.{Partition}
use Rattle.qm_partition.specs.Ways.{Way, ways, cell_of_way}
use Rattle.qm_contacts.specs.inner.Pieces.{walled_cell}

-- each leaf below the end of a way has a point
abbrev pub HasPointsBelow : List Plane → Way → Partition → Type 0
HasPointsBelow planes above shape =
    (way : Way) → Contains (ways shape) way → (x : Point) × IsInCell (walled_cell planes above) x × IsInCell (cell_of_way planes way) x

-- these planes bound the cell at the end of a way, and are among its own
pub record AreBounds (planes : List Plane) (way : Way) (bounds : List Plane) : Type 0 where
  pub points : (x : Point) → pos 0 <ℤ x.w → IsInCell (walled_cell planes way) x ↔ IsInCell bounds x
  pub among : All (Contains (walled_cell planes way)) bounds

-- the facets of that cell on walls of the cube; none of the way's steps has the sides of a wall
pub record AreWallFacets (planes : List Plane) (way : Way) (on_walls : List Facet) : Type 0 where
  pub walls : AreFacetsOn (walled_cell planes way) cube_walls on_walls
  pub apart : All (λ g. (wall : Plane) → Contains cube_walls wall → HasSameSides g wall → ⊥) (cell_of_way planes way)

use Rattle.std.specs.Prelude.{◌≡◌, ◌≢◌, ℤ, pos, List, Contains}
use Rattle.qm_space.specs.Point.{Point, IsInCube}
use Rattle.qm_space.specs.Plane.{Plane, IsOn, IsBehind, scaled}
use Rattle.qm_space.specs.Cell.{IsInCell}
use Rattle.qm_contents.specs.Precedence.{IsAtMost}
use Rattle.qm_solids.specs.Solid.{Solid}
use Rattle.qm_solids.specs.Holding.{IsFull}
use Rattle.qm_solids.specs.Cells.{ContainsCell}

-- Which planes part a cell. A plane is taken without regard to its side and its scale.

-- both have the same points: a multiple of the first is a multiple of the second, on whichever side
pub record IsSamePlane (a h : Plane) : Type 0 where
  pub times : ℤ
  pub factor : ℤ
  pub some_times : times ≢ pos 0
  pub some_factor : factor ≢ pos 0
  pub multiple : scaled times a ≡ scaled factor h

-- a point of the cell that is on the plane, and strictly behind those planes of the solid that lie on others
pub record IsOnFace (solid : Solid) (cell : List Plane) (h : Plane) (x : Point) : Type 0 where
  pub in_cube : IsInCube x
  pub in_cell : IsInCell cell x
  pub on : IsOn h x
  pub behind_others : (other : Plane) → Contains solid.outward other → (IsSamePlane other h → ⊥) → IsBehind other x

-- a solid at least as strong as this one contains the cell
pub record IsOutdone (solids : List Solid) (cell : List Plane) (solid : Solid) : Type 0 where
  pub stronger : Solid
  pub listed : Contains solids stronger
  pub at_least : IsAtMost solid.contents stronger.contents
  pub contains : ContainsCell stronger cell

-- a plane is a candidate in a cell where a full solid has a face on it, some point of the cell is on that face, and no
-- solid at least as strong contains the cell
pub record IsCandidate (solids : List Solid) (cell : List Plane) (h : Plane) : Type 0 where
  pub solid : Solid
  pub listed : Contains solids solid
  pub full : IsFull solid
  pub face : Plane
  pub has_face : Contains solid.outward face
  pub lies_on : IsSamePlane face h
  pub point : Point
  pub on_face : IsOnFace solid cell h point
  pub not_outdone : IsOutdone solids cell solid → ⊥

use Rattle.std.specs.Prelude.{List}
use Rattle.qm_space.specs.Point.{Point, IsInCube}
use Rattle.qm_space.specs.Plane.{Plane}
use Rattle.qm_space.specs.Cell.{IsInCell}
use Rattle.qm_contents.specs.declared.contents.Contents.{Contents}
use Rattle.qm_solids.specs.Solid.{Solid}
use Rattle.qm_solids.specs.Holding.{IsInside, IsFull}
use Rattle.qm_solids.specs.Strongest.{AreStrongest}

-- Of a cell only the points inside the cube count.

-- a solid contains a cell where it is full and every point of the cell is strictly inside it
pub record ContainsCell (solid : Solid) (cell : List Plane) : Type 0 where
  pub full : IsFull solid
  pub inside : (x : Point) → IsInCube x → IsInCell cell x → IsInside solid x

-- what solids make of a cell: the strongest contents of those that contain it, else empty
abbrev pub CellHasContents : List Solid → List Plane → Contents → Type 0
CellHasContents solids cell contents = AreStrongest (λ solid. ContainsCell solid cell) solids contents

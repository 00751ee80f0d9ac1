use Rattle.std.specs.Prelude.{List, Contains}
use Rattle.qm_space.specs.Point.{Point, IsInCube}
use Rattle.qm_space.specs.Plane.{Plane}
use Rattle.qm_space.specs.Cell.{IsInCell}
use Rattle.qm_solids.specs.Solid.{Solid}
use Rattle.qm_solids.specs.Holding.{Holds}
use Rattle.qm_solids.specs.Candidates.{IsOnFace}

-- A cell that no face of a solid meets is all inside the solid or all outside it.

-- no point of the cell is on a face of the solid
abbrev pub MeetsNoFace : Solid → List Plane → Type 0
MeetsNoFace solid cell = (face : Plane) (x : Point) → Contains solid.outward face → IsOnFace solid cell face x → ⊥

-- the solid holds no point of the cell
abbrev pub LiesOutside : Solid → List Plane → Type 0
LiesOutside solid cell = (x : Point) → IsInCube x → IsInCell cell x → Holds solid x → ⊥

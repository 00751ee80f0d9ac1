use Rattle.std.specs.Prelude.{pos, ◌<ℤ◌, Contains, ◌↔◌}
use Rattle.qm_space.specs.Point.{Point}
use Rattle.qm_space.specs.Plane.{Plane}
use Rattle.qm_space.specs.Cell.{IsInCell}
use Rattle.qm_space.specs.Meet.{meet}
use Rattle.qm_convex.specs.inner.Parallelogram.{AreOpposite, LeaveRoom, IsBetweenPlanes}
use Rattle.qm_wind.specs.declared.axial_cell.Opposites.{Opposites}
use Rattle.qm_wind.specs.declared.axial_cell.AxialCell.{AxialCell}
use Rattle.qm_wind.specs.declared.across.Across.{Across}
use Rattle.qm_wind.specs.inner.AxialCells.{bounds_of}

abbrev pub IsBetweenOpposites : Opposites → Point → Type 0
IsBetweenOpposites pair p = IsBetweenPlanes pair.near pair.far p

-- two planes of a cell that face one another, with room between them
pub record IsPair (cell : AxialCell) (pair : Opposites) : Type 0 where
  pub near : Contains (bounds_of cell) pair.near
  pub far : Contains (bounds_of cell) pair.far
  pub opposite : AreOpposite pair.near pair.far
  pub apart : LeaveRoom pair.near pair.far

-- three pairs are those of a cell
pub record ArePairs (cell : AxialCell) (a b c : Opposites) : Type 0 where
  pub inside : (p : Point) → IsInCell (bounds_of cell) p ↔ (IsBetweenOpposites a p × IsBetweenOpposites b p × IsBetweenOpposites c p)
  pub first : IsPair cell a
  pub second : IsPair cell b
  pub third : IsPair cell c

-- the first two of them stand across a plane: the normals of the plane and of their near planes turn to the front
pub record StandAcross (h : Plane) (cell : AxialCell) (pairs : Across) : Type 0 where
  pub are : ArePairs cell pairs.first pairs.second pairs.third
  pub turn : pos 0 <ℤ (meet h pairs.first.near pairs.second.near).w

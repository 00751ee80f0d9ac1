use Rattle.std.specs.Prelude.{pos, ◌<ℤ◌, List, ◌∷◌, All, Contains, ◌↔◌}
use Rattle.qm_space.specs.Point.{Point}
use Rattle.qm_space.specs.Plane.{Plane, IsInFront}
use Rattle.qm_space.specs.Cell.{IsInCell}

-- a plane is added to those that bound a cell; one of those that it makes needless may be left out
pub record IsBoundAdded (h : Plane) (old new : List Plane) : Type 0 where
  pub points : (x : Point) → pos 0 <ℤ x.w → IsInCell new x ↔ (IsInCell old x × IsInFront h x)
  pub among : All (Contains (h ∷ old)) new

use Rattle.std.specs.Prelude.{ℕ, List}
use Rattle.qm_space.specs.Plane.{Plane}
use Rattle.qm_solids.specs.Solid.{Solid}
use Rattle.qm_solids.specs.Least.{IsNumberedCandidate}
use Rattle.qm_split.specs.declared.fragments.Fragments.{Fragments}
use Rattle.qm_split.specs.CellFragments.{AreFragmentsOf}

-- the fragments are those of a cell in which the plane is a candidate, of a number in the book
pub record IsCandidatePlane (fragments : Fragments) (h : Plane) : Type 0 where
  pub solids : List Solid
  pub book : List Plane
  pub cell : List Plane
  pub number : ℕ
  pub are : AreFragmentsOf solids book cell fragments
  pub candidate : IsNumberedCandidate solids book cell number h

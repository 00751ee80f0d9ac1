use Rattle.std.specs.Prelude.{Option}
use Rattle.std.specs.Option.{MatchOption}
use Rattle.qm_space.specs.Plane.{Plane, flipped}
use Rattle.qm_convex.specs.Winding.{Winding}
use Rattle.qm_convex.specs.Sides.{HasNoneInFront}
use Rattle.qm_convex.specs.Cut.{IsPartInFront}
use Rattle.qm_wind.specs.declared.halves.Halves.{Halves}

-- the part of a winding in front of a plane, if it has a point there
abbrev pub IsFrontOf : Option Winding → Winding → Plane → Type 0
IsFrontOf part v g = MatchOption part (HasNoneInFront v g) (λ w. IsPartInFront w v g)

-- the parts of a winding on both sides of a plane
pub record IsSplit (halves : Halves) (v : Winding) (g : Plane) : Type 0 where
  pub front : IsFrontOf halves.front v g
  pub back : IsFrontOf halves.back v (flipped g)

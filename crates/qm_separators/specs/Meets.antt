use Rattle.std.specs.Prelude.{◌≡◌, MatchOption}
use Rattle.qm_space.specs.Point.{Point}
use Rattle.qm_space.specs.Plane.{IsBehind, IsInFront}
use Rattle.qm_space.specs.Line.{IsBetween}
use Rattle.qm_convex.specs.Winding.{IsInRegion}
use Rattle.qm_segments.specs.Segment.{Segment}
use Rattle.qm_separators.specs.ChainState.{ChainState}

-- the segment meets the windings of the state: it goes through the source, from the back of its turned plane to the front,
-- and then, where there is a pass, through the pass; the last of them at the point x
pub record Meets (s : Segment) (x : Point) (state : ChainState) : Type 0 where
  pub at : Point
  pub between : IsBetween at s.from s.to
  pub inside : IsInRegion state.source at
  pub behind : IsBehind state.into s.from
  pub in_front : IsInFront state.into s.to
  pub last : MatchOption state.pass (x ≡ at) (λ p. IsInRegion p x × IsBetween x at s.to)

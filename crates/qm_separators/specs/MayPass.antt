use Rattle.std.specs.Prelude.{MatchOption}
use Rattle.qm_space.specs.Plane.{Plane}
use Rattle.qm_convex.specs.Winding.{Winding}
use Rattle.qm_convex.specs.Sides.{HasCornerInFront, HasCornerBehind}
use Rattle.qm_separators.specs.Separator.{IsSeparatorFrom}
use Rattle.qm_separators.specs.ChainState.{ChainState}

-- What a line may still pass that has met a state: the portal has a corner in front of the source's turned plane, and one in
-- front of each separator of source and pass; source and pass each have a corner behind the portal's turned plane.
pub record MayPass (state : ChainState) (target : Winding) (into : Plane) : Type 0 where
  pub in_front : HasCornerInFront target state.into
  pub beyond : (h : Plane) → IsSeparatorFrom state.pass state.source h → HasCornerInFront target h
  pub source_behind : HasCornerBehind state.source into
  pub pass_behind : MatchOption state.pass (Unit {0}) (λ p. HasCornerBehind p into)

-- What a segment passes that has met a state, the state may pass.
use Rattle.std.proofs.Common.{Option, Some, None}
use Rattle.std.specs.Prelude.{MatchOption}
use Rattle.qm_space.specs.Point.{Point}
use Rattle.qm_space.specs.Plane.{Plane, IsInFront}
use Rattle.qm_space.specs.Line.{IsBetween}
use Rattle.qm_convex.specs.Winding.{Winding, IsConvex, IsInRegion}
use Rattle.qm_convex.specs.Sides.{LiesIn, HasCornerBehind}
use Rattle.qm_convex.proofs.Central.{some_in_front, some_behind}
use Rattle.qm_segments.specs.Segment.{Segment}
use Rattle.qm_segments.proofs.Betweenness.{behind_before}
use Rattle.qm_separators.specs.ChainState.{ChainState, IsChainState}
use Rattle.qm_separators.specs.MayPass.{MayPass}
use Rattle.qm_separators.specs.Meets.{Meets}
use Rattle.qm_separators.proofs.StepLaw.{IsLast, IsConvexPass, beyond, target_in_front, source_is_behind}

module _ (state : ChainState) (target : Winding) (into : Plane) (s : Segment) (x y : Point) (valid : IsChainState state) (convex : IsConvex target) (lies : LiesIn target into) (met : Meets s x state) (inside : IsInRegion target y) (front : IsInFront into s.to) (after : IsBetween y x s.to) where
  last_behind : (pass : Option Winding) → IsConvexPass pass → IsLast met.at x s.to pass → MatchOption pass (Unit {0}) (λ p. HasCornerBehind p into)
  last_behind None p_convex last = tt
  last_behind (Some p) p_convex last = (some_behind p into p_convex).0 (x, last.0, behind_before into y x s.to after (lies y inside) front)

  pub may_pass : MayPass state target into
  may_pass = record {
    in_front = (some_in_front target state.into convex).0 (y, inside, target_in_front state target into s x y valid lies met inside front after);
    beyond = λ h is. (some_in_front target h convex).0 (y, inside, beyond met.at x y s.to state.source valid.source_convex after state.pass valid.pass_convex met.last met.inside h is);
    source_behind = (some_behind state.source into valid.source_convex).0 (met.at, met.inside, source_is_behind state target into s x y valid lies met inside front after);
    pass_behind = last_behind state.pass valid.pass_convex met.last;
  }

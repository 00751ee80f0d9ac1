use Rattle.std.proofs.Common.{List, subst}
use Rattle.qm_space.specs.Plane.{Plane}
use Rattle.qm_facets.specs.Body.{IsBody, IsBodyOrNone, with_plane}
use Rattle.qm_half_spaces.specs.HalfCells.{inward_of_half}
use Rattle.qm_half_spaces.proofs.HalvesLeft.{one_half_more, nothing_left}
use Rattle.qm_half_spaces.proofs.body.Body.within.Goals as goal
use Rattle.qm_half_spaces.proofs.body.Body.within.Goals.{In_ok-left}

kept_is : (c : In_ok-left) → (cell : List Plane) → IsBody cell c.loop-half.body → IsBodyOrNone (with_plane cell (inward_of_half c.half-item.result)) c.in_ok-left.field-0
kept_is c = subst (λ (g : Plane). (cell : List Plane) → IsBody cell c.loop-half.body → IsBodyOrNone (with_plane cell g) c.in_ok-left.field-0) c.inward_plane.ensures c.in_ok-left.ensures

pub returns-in-None : goal.returns-in-None
returns-in-None c =
    nothing_left c.args.halves.now c.loop-half.half-index c.half-item.result c.loop-half-test.true c.half-item.is c.loop-half.body c.in_ok-left.field-0
    (kept_is (goal.at.returns-in-None c).In_ok-left) c.loop-half.invariant c.in-None.is

pub loop-half-preserved : goal.loop-half-preserved
loop-half-preserved c =
    one_half_more c.args.halves.now c.loop-half.half-index c.half-item.result c.loop-half-test.true c.half-item.is c.loop-half.body c.in_ok-left.field-0
    (kept_is (goal.at.loop-half-preserved c).In_ok-left) c.loop-half.invariant c.in-Some.left c.in-Some.is

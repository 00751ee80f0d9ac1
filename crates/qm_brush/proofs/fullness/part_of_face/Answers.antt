use Rattle.std.proofs.Common.{Option, subst}
use Rattle.std.specs.Prelude.{MatchOption}
use Rattle.qm_convex.specs.Winding.{Winding}
use Rattle.qm_convex.specs.World.{MissesCube, IsWorldPart}
use Rattle.qm_brush.proofs.PartsOfFaces.{missed_plane, part_of_plane, some_left, part_left, none_left}
use Rattle.qm_brush.proofs.fullness.part_of_face.Goals as goal

pub returns-in_default : goal.returns-in_default
returns-in_default c =
    none_left c.args.planes.now c.args.faces.now c.args.face.now c.loop-other.other-index _ c.loop-other-test.true
    c.in_ok-lost.lost c.loop-other.part c.narrow.new.part c.in_default.not-Present c.loop-other.invariant c.in_ok-lost.ensures

pub loop-other-preserved : goal.loop-other-preserved
loop-other-preserved c =
    some_left c.args.planes.now c.args.faces.now c.args.face.now c.loop-other.other-index _ c.loop-other-test.true
    c.in_ok-lost.lost c.loop-other.part c.narrow.new.part c.in-Present.is c.loop-other.invariant c.in_ok-lost.ensures

pub returns : goal.returns
returns c = part_left c.args.planes.now c.args.faces.now c.args.face.now c.loop-other.other-index c.loop-other.part c.loop-other-test.false c.loop-other.invariant

pub returns-in-None : goal.returns-in-None
returns-in-None c =
    missed_plane c.args.planes.now c.args.faces.now c.args.face.now c.index-planes-face.result c.requires.its_number c.index-planes-face.is
    (subst (λ (part : Option Winding). MatchOption part (MissesCube c.index-planes-face.result) (λ w. IsWorldPart w c.index-planes-face.result)) c.in-None.is c.in_ok-on.ensures)

pub loop-other-init : goal.loop-other-init
loop-other-init c =
    part_of_plane c.args.planes.now c.args.faces.now c.args.face.now c.index-planes-face.result c.in-Some.part c.requires.its_number c.index-planes-face.is
    (subst (λ (part : Option Winding). MatchOption part (MissesCube c.index-planes-face.result) (λ w. IsWorldPart w c.index-planes-face.result)) c.in-Some.is c.in_ok-on.ensures)

pub narrow-requires-clause-convex : goal.narrow-requires-clause-convex
narrow-requires-clause-convex c = c.loop-other.invariant.convex

pub narrow-requires-clause-numbered : goal.narrow-requires-clause-numbered
narrow-requires-clause-numbered c = c.requires.numbered c.loop-other.other-index _ c.loop-other-test.true

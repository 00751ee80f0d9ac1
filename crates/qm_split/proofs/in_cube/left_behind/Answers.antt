use Rattle.std.proofs.Common.{take, sym, subst}
use Rattle.std.proofs.lemmas.List.{take_all}
use Rattle.qm_space.specs.Cuboid.{IsTightened}
use Rattle.qm_split.specs.inner.FacePieces.{LeavesAllBehind}
use Rattle.qm_lists.proofs.Places.{take-read}
use Rattle.qm_split.proofs.FacesInCube.{left_in_tightened}
use Rattle.qm_split.proofs.in_cube.left_behind.Goals as goal

pub loop-face-init : goal.loop-face-init
loop-face-init c = λ x in_cube within none. within

pub loop-face-preserved : goal.loop-face-preserved
loop-face-preserved c =
    subst (λ planes. LeavesAllBehind c.args.cuboid planes c.tightened-left.result) (sym (take-read c.args.outward.now c.loop-face.face-index c.face-item.result c.loop-face-test.true c.face-item.is))
    (left_in_tightened (take c.loop-face.face-index c.args.outward.now) c.face-item.result c.args.cuboid c.loop-face.left c.tightened-left.result c.loop-face.invariant
    (subst (IsTightened c.tightened-left.result c.loop-face.left) c.flipped.ensures c.tightened-left.ensures))

pub returns : goal.returns
returns c = subst (λ planes. LeavesAllBehind c.args.cuboid planes c.loop-face.left) (take_all c.loop-face.face-index c.args.outward.now c.loop-face-test.false) c.loop-face.invariant

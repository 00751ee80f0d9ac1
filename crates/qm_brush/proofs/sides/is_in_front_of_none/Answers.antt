use Rattle.std.proofs.lemmas.List.Elements.{All-more}
use Rattle.qm_space.specs.Plane.{IsNotInFront}
use Rattle.qm_solids.specs.declared.face.FaceRef.{FaceRef}
use Rattle.qm_solids.specs.Outward.{outward_of}
use Rattle.qm_solids.proofs.FaceSides.{gt_means, not_in_front_all, in_front_one}
use Rattle.qm_brush.proofs.sides.is_in_front_of_none.Goals as goal

pub returns-then-is_gt : goal.returns-then-is_gt
returns-then-is_gt c =
    in_front_one c.args.planes.now c.args.faces.now c.loop-face.face-index c.args.at.now _ c.loop-face-test.true
    (gt_means c.args.planes.now _ c.args.at.now c.outer_side.result c.outer_side.ensures c.is_gt.result _ c.if-is_gt.true c.is_gt.ensures)

pub loop-face-preserved : goal.loop-face-preserved
loop-face-preserved c =
    All-more (λ (face : FaceRef). IsNotInFront (outward_of c.args.planes.now face) c.args.at.now) c.args.faces.now c.loop-face.face-index _ c.loop-face-test.true c.loop-face.invariant
    (gt_means c.args.planes.now _ c.args.at.now c.outer_side.result c.outer_side.ensures c.is_gt.result _ c.if-is_gt.false c.is_gt.ensures)

pub returns : goal.returns
returns c = not_in_front_all c.args.planes.now c.args.faces.now c.loop-face.face-index c.args.at.now c.loop-face-test.false c.loop-face.invariant

use Rattle.std.proofs.Common.{refl}
use Rattle.std.proofs.lemmas.List.Elements.{All-more}
use Rattle.qm_space.specs.Plane.{IsBehind}
use Rattle.qm_solids.specs.declared.face.FaceRef.{FaceRef}
use Rattle.qm_solids.specs.Outward.{outward_of}
use Rattle.qm_solids.proofs.FaceSides.{ge_means, inside_all, not_behind_one}
use Rattle.qm_brush.specs.inner.Fullness.{solid_behind}
use Rattle.qm_brush.proofs.sides.is_inside.Goals as goal

pub returns-then-is_ge : goal.returns-then-is_ge
returns-then-is_ge c =
    not_behind_one c.args.planes.now c.args.faces.now c.loop-face.face-index c.args.at.now (solid_behind c.args.planes.now c.args.faces.now) _ refl c.loop-face-test.true
    (ge_means c.args.planes.now _ c.args.at.now c.outer_side.result c.outer_side.ensures c.is_ge.result _ c.if-is_ge.true c.is_ge.ensures)

pub loop-face-preserved : goal.loop-face-preserved
loop-face-preserved c =
    All-more (λ (face : FaceRef). IsBehind (outward_of c.args.planes.now face) c.args.at.now) c.args.faces.now c.loop-face.face-index _ c.loop-face-test.true c.loop-face.invariant
    (ge_means c.args.planes.now _ c.args.at.now c.outer_side.result c.outer_side.ensures c.is_ge.result _ c.if-is_ge.false c.is_ge.ensures)

pub returns : goal.returns
returns c =
    inside_all c.args.planes.now c.args.faces.now c.loop-face.face-index c.args.at.now (solid_behind c.args.planes.now c.args.faces.now) refl c.loop-face-test.false c.loop-face.invariant

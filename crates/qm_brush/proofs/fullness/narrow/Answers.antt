use Rattle.std.proofs.Common.{Bool, subst}
use Rattle.std.specs.Bool.{MatchBool}
use Rattle.qm_convex.specs.Sides.{HasNoneInFront}
use Rattle.qm_convex.specs.Cut.{IsPartInFront}
use Rattle.qm_brush.specs.inner.FaceParts.{inward_of}
use Rattle.qm_brush.proofs.PartsOfFaces.{behind_keeps}
use Rattle.qm_brush.proofs.fullness.narrow.Goals as goal

pub returns-then-branch : goal.returns-then-branch
returns-then-branch c =
    let kept = subst (λ (b : Bool). MatchBool b
    (IsPartInFront c.keep_behind.new.part c.args.part.now (inward_of c.args.planes.now c.args.other.now))
    (HasNoneInFront c.args.part.now (inward_of c.args.planes.now c.args.other.now))) c.if-branch.true c.in_ok-keep_behind.ensures in
    behind_keeps c.args.planes.now c.args.face.now c.args.other.now c.args.part.now c.keep_behind.new.part c.if-other-face.false kept

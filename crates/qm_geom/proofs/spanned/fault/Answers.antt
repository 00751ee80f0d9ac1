use Rattle.std.proofs.Common.{◌∙◌, None, pos, ap, sym, subst}
use Rattle.qm_space.specs.Point.{thousandths_point}
use Rattle.qm_space.specs.Plane.{Plane, IsOn}
use Rattle.qm_space.specs.ThreePoints.{in_space}
use Rattle.qm_space.proofs.SpannedPlanes.{spanned_holds}
use Rattle.qm_geom.specs.inner.Lowest.{IsLowestFault}
use Rattle.qm_geom.proofs.Axes.{axial_fault}
use Rattle.qm_geom.proofs.LowestAnswers.{fault_of_multiple}
use Rattle.qm_geom.proofs.spanned.fault.Goals as goal

pub returns-in-Some : goal.returns-in-Some
returns-in-Some c =
    let e = c.in_thousandths-spanned.ensures ∙ ap (in_space (pos 1000)) c.outward.ensures.value in
    subst (λ (h : Plane). IsLowestFault h None) e
    (axial_fault c.in-Some.field-0 c.in_thousandths-spanned.result c.args.p1 (c.has_normal.ensures.0 c.if-not-has_normal.false)
    (subst (λ (h : Plane). IsOn h (thousandths_point c.args.p1)) (sym e) (spanned_holds (thousandths_point c.args.p0) (thousandths_point c.args.p1) (thousandths_point c.args.p2)))
    c.in-Some.ensures)

pub returns-in-None : goal.returns-in-None
returns-in-None c = fault_of_multiple _ c.less_known_factor.result c.fault.result c.less_known_factor.ensures.multiple c.fault.ensures

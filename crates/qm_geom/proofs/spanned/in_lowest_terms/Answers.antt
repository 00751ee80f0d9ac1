use Rattle.std.proofs.Common.{◌∙◌, Ok, pos, ap, sym, subst}
use Rattle.qm_space.specs.Point.{thousandths_point}
use Rattle.qm_space.specs.Plane.{Plane, IsOn}
use Rattle.qm_space.specs.ThreePoints.{in_space}
use Rattle.qm_space.proofs.SpannedPlanes.{spanned_holds}
use Rattle.qm_geom.specs.inner.Lowest.{IsLowestAnswer}
use Rattle.qm_geom.proofs.Axes.{axial_answer}
use Rattle.qm_geom.proofs.LowestAnswers.{answer_of_multiple}
use Rattle.qm_geom.proofs.spanned.in_lowest_terms.Goals as goal

pub in_thousandths-spanned-requires : goal.in_thousandths-spanned-requires
in_thousandths-spanned-requires c = c.outward.ensures.size

pub returns-in-Some : goal.returns-in-Some
returns-in-Some c =
    let e = c.in_thousandths-spanned.ensures ∙ ap (in_space (pos 1000)) c.outward.ensures.value in
    subst (λ (h : Plane). IsLowestAnswer h (Ok (c.plane_at.result, c.leads_positive.result))) e
    (axial_answer c.in-Some.axis c.in_thousandths-spanned.result c.args.p1 (c.has_normal.ensures.0 c.if-not-has_normal.false)
    (subst (λ (h : Plane). IsOn h (thousandths_point c.args.p1)) (sym e) (spanned_holds (thousandths_point c.args.p0) (thousandths_point c.args.p1) (thousandths_point c.args.p2)))
    c.in-Some.ensures c.plane_at.result c.leads_positive.result c.plane_at.ensures.value c.leads_positive.ensures)

pub returns-in-None : goal.returns-in-None
returns-in-None c = answer_of_multiple _ c.less_known_factor.result _ c.less_known_factor.ensures.multiple c.in_lowest_terms.ensures

use Rattle.std.proofs.Common.{◌∙◌, refl, sym, subst}
use Rattle.qm_space.specs.Point.{whole_point, thousandths_point}
use Rattle.qm_space.specs.Plane.{Plane}
use Rattle.qm_space.specs.Multiple.{IsPositiveMultiple}
use Rattle.qm_space.specs.ThreePoints.{spanned_plane}
use Rattle.qm_space.specs.inner.SpannedSizes.{IsWithinReach}
use Rattle.qm_space.proofs.CoordinateSizes.{whole_in_closed_cube}
use Rattle.qm_space.proofs.SamePlaces.{spanned_by_wholes}
use Rattle.qm_space.proofs.SpannedPlanes.{outward_of_numerators, spanned_whole, spanned_within_reach}
use Rattle.qm_geom.proofs.spanned.of_whole_points.Goals as goal

pub returns : goal.returns
returns c =
    let p = c.in_ok-whole_point.field-0 in let q = c.in_ok-whole_point-2.field-0 in let r = c.in_ok-whole_point-3.field-0 in
    let e = c.outward.ensures.value ∙ outward_of_numerators p q r in (
      subst (λ (h : Plane). IsPositiveMultiple (spanned_plane (thousandths_point c.args.p0) (thousandths_point c.args.p1) (thousandths_point c.args.p2)) h) (sym e)
          (spanned_by_wholes c.args.p0 c.args.p1 c.args.p2 p q r c.in_ok-whole_point.ensures.1 c.in_ok-whole_point-2.ensures.1 c.in_ok-whole_point-3.ensures.1),
      subst IsWithinReach (spanned_whole (whole_point p) (whole_point q) (whole_point r) refl ∙ sym e)
          (spanned_within_reach (whole_point p) (whole_point q) (whole_point r) (whole_in_closed_cube q c.in_ok-whole_point-2.ensures.0)),
    )

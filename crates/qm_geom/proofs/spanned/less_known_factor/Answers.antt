use Rattle.std.proofs.Common.{◌∙◌, pos, ap, sym, subst}
use Rattle.qm_space.specs.Point.{thousandths_point}
use Rattle.qm_space.specs.Plane.{Plane}
use Rattle.qm_space.specs.Multiple.{IsPositiveMultiple}
use Rattle.qm_space.specs.ThreePoints.{in_space, spanned_plane}
use Rattle.qm_space.specs.inner.SpannedSizes.{IsWithinReach}
use Rattle.qm_space.proofs.CoordinateSizes.{thousandths_in_closed_cube}
use Rattle.qm_space.proofs.LowestMultiples.{multiple_of_itself}
use Rattle.qm_space.proofs.SpannedPlanes.{spanned_within_reach}
use Rattle.qm_geom.proofs.spanned.less_known_factor.Goals as goal

pub returns-in-None-clause-multiple : goal.returns-in-None-clause-multiple
returns-in-None-clause-multiple c =
    subst (λ (h : Plane). IsPositiveMultiple (spanned_plane (thousandths_point c.args.p0) (thousandths_point c.args.p1) (thousandths_point c.args.p2)) h)
    (sym (c.in_thousandths.ensures ∙ ap (in_space (pos 1000)) c.outward.ensures.value))
    (multiple_of_itself (spanned_plane (thousandths_point c.args.p0) (thousandths_point c.args.p1) (thousandths_point c.args.p2)))

pub returns-in-None-clause-near : goal.returns-in-None-clause-near
returns-in-None-clause-near c =
    subst IsWithinReach (sym (c.in_thousandths.ensures ∙ ap (in_space (pos 1000)) c.outward.ensures.value))
    (spanned_within_reach (thousandths_point c.args.p0) (thousandths_point c.args.p1) (thousandths_point c.args.p2) (thousandths_in_closed_cube c.args.p1 c.requires.p1_in_cube))

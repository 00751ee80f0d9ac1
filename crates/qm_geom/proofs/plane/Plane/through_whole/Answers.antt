use Rattle.std.proofs.Common.{◌≡◌, ◌∙◌, ℤ, List, refl, sym, subst}
use Rattle.qm_space.specs.Point.{whole_point, thousandths_point}
use Rattle.qm_space.specs.Plane.{Plane}
use Rattle.qm_space.specs.ThreePoints.{outward_plane, spanned_plane}
use Rattle.qm_space.specs.inner.SpannedSizes.{IsWithinReach}
use Rattle.qm_space.proofs.CoordinateSizes.{thousandths_of_coordinates, whole_in_closed_cube}
use Rattle.qm_space.proofs.Lines.{whole_weights}
use Rattle.qm_space.proofs.SpannedPlanes.{outward_of_numerators, spanned_whole, spanned_within_reach}
use Rattle.qm_geom.specs.inner.Lowest.{IsLowestAnswer}
use Rattle.qm_geom.proofs.ThroughPoints.{through_value, is_through, through_no_normal, through_too_fine}
use Rattle.qm_geom.proofs.plane.Plane.through_whole.Goals as goal
use Rattle.qm_geom.proofs.plane.Plane.through_whole.Goals.{After-in_lowest_terms}

pub outward-requires : goal.outward-requires
outward-requires c = record {
  p0_in_cube = thousandths_of_coordinates c.args.p0 c.requires.p0_in_cube;
  p1_in_cube = thousandths_of_coordinates c.args.p1 c.requires.p1_in_cube;
  p2_in_cube = thousandths_of_coordinates c.args.p2 c.requires.p2_in_cube;
}

-- the plane over the numerators of whole points is the one that they span
over_numerators : (p0 p1 p2 : List ℤ) → outward_plane (thousandths_point p0) (thousandths_point p1) (thousandths_point p2) ≡ spanned_plane (whole_point p0) (whole_point p1) (whole_point p2)
over_numerators p0 p1 p2 = outward_of_numerators p0 p1 p2 ∙ sym (spanned_whole (whole_point p0) (whole_point p1) (whole_point p2) refl)

pub in_lowest_terms-requires : goal.in_lowest_terms-requires
in_lowest_terms-requires c =
    subst IsWithinReach (sym (c.outward.ensures.value ∙ over_numerators c.args.p0 c.args.p1 c.args.p2))
    (spanned_within_reach (whole_point c.args.p0) (whole_point c.args.p1) (whole_point c.args.p2) (whole_in_closed_cube c.args.p1 c.requires.p1_in_cube))

answered : (c : After-in_lowest_terms) → IsLowestAnswer (spanned_plane (whole_point c.args.p0) (whole_point c.args.p1) (whole_point c.args.p2)) c.in_lowest_terms.result
answered c = subst (λ (h : Plane). IsLowestAnswer h c.in_lowest_terms.result) (c.outward.ensures.value ∙ over_numerators c.args.p0 c.args.p1 c.args.p2) c.in_lowest_terms.ensures

pub returns-clause-value : goal.returns-clause-value
returns-clause-value c = through_value (whole_point c.args.p0) (whole_point c.args.p1) (whole_point c.args.p2) (whole_weights c.args.p0 c.args.p1 c.args.p2) c.in_lowest_terms.result (answered c)

pub returns-clause-through : goal.returns-clause-through
returns-clause-through c = is_through (whole_point c.args.p0) (whole_point c.args.p1) (whole_point c.args.p2) (whole_weights c.args.p0 c.args.p1 c.args.p2) (whole_in_closed_cube c.args.p1 c.requires.p1_in_cube) c.in_lowest_terms.result (answered c)

pub returns-clause-no_normal : goal.returns-clause-no_normal
returns-clause-no_normal c = through_no_normal (whole_point c.args.p0) (whole_point c.args.p1) (whole_point c.args.p2) (whole_weights c.args.p0 c.args.p1 c.args.p2) c.in_lowest_terms.result (answered c)

pub returns-clause-too_fine : goal.returns-clause-too_fine
returns-clause-too_fine c = through_too_fine (whole_point c.args.p0) (whole_point c.args.p1) (whole_point c.args.p2) (whole_weights c.args.p0 c.args.p1 c.args.p2) c.in_lowest_terms.result (answered c)

use Rattle.qm_space.specs.Point.{thousandths_point}
use Rattle.qm_space.proofs.CoordinateSizes.{thousandths_in_closed_cube}
use Rattle.qm_space.proofs.Lines.{thousandths_weights}
use Rattle.qm_geom.proofs.ThroughPoints.{through_value, is_through, through_no_normal, through_too_fine}
use Rattle.qm_geom.proofs.plane.Plane.through.Goals as goal

pub returns-clause-value : goal.returns-clause-value
returns-clause-value c = through_value (thousandths_point c.args.p0) (thousandths_point c.args.p1) (thousandths_point c.args.p2) (thousandths_weights c.args.p0 c.args.p1 c.args.p2) c.in_lowest_terms.result c.in_lowest_terms.ensures

pub returns-clause-through : goal.returns-clause-through
returns-clause-through c = is_through (thousandths_point c.args.p0) (thousandths_point c.args.p1) (thousandths_point c.args.p2) (thousandths_weights c.args.p0 c.args.p1 c.args.p2) (thousandths_in_closed_cube c.args.p1 c.requires.p1_in_cube) c.in_lowest_terms.result c.in_lowest_terms.ensures

pub returns-clause-no_normal : goal.returns-clause-no_normal
returns-clause-no_normal c = through_no_normal (thousandths_point c.args.p0) (thousandths_point c.args.p1) (thousandths_point c.args.p2) (thousandths_weights c.args.p0 c.args.p1 c.args.p2) c.in_lowest_terms.result c.in_lowest_terms.ensures

pub returns-clause-too_fine : goal.returns-clause-too_fine
returns-clause-too_fine c = through_too_fine (thousandths_point c.args.p0) (thousandths_point c.args.p1) (thousandths_point c.args.p2) (thousandths_weights c.args.p0 c.args.p1 c.args.p2) c.in_lowest_terms.result c.in_lowest_terms.ensures

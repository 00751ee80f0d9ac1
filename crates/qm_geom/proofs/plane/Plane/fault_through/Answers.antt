use Rattle.qm_space.specs.Point.{thousandths_point}
use Rattle.qm_space.proofs.Lines.{thousandths_weights}
use Rattle.qm_geom.proofs.ThroughPoints.{fault_no_normal, fault_too_fine}
use Rattle.qm_geom.proofs.plane.Plane.fault_through.Goals as goal

pub returns-clause-no_normal : goal.returns-clause-no_normal
returns-clause-no_normal c = fault_no_normal (thousandths_point c.args.p0) (thousandths_point c.args.p1) (thousandths_point c.args.p2) (thousandths_weights c.args.p0 c.args.p1 c.args.p2) c.fault.result c.fault.ensures

pub returns-clause-too_fine : goal.returns-clause-too_fine
returns-clause-too_fine c = fault_too_fine (thousandths_point c.args.p0) (thousandths_point c.args.p1) (thousandths_point c.args.p2) (thousandths_weights c.args.p0 c.args.p1 c.args.p2) c.fault.result c.fault.ensures

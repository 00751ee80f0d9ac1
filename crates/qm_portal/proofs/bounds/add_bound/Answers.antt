use Rattle.qm_contacts.proofs.CellBounds.{bound_pushed}
use Rattle.qm_portal.proofs.AxialBounds.{axial_pushed}
use Rattle.qm_portal.proofs.bounds.add_bound.Goals as goal

pub returns-in_ok-push-in-None-clause-added : goal.returns-in_ok-push-in-None-clause-added
returns-in_ok-push-in-None-clause-added c = bound_pushed c.args.plane.now c.args.bounds.now.items c.push.new.self.items c.in_ok-push-in-None.ensures.items

pub returns-in_ok-push-in-None-clause-axial : goal.returns-in_ok-push-in-None-clause-axial
returns-in_ok-push-in-None-clause-axial c = axial_pushed c.args.plane.now c.args.bounds.now.items c.push.new.self.items c.in_ok-push-in-None.ensures.items c.requires

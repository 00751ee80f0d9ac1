use Rattle.std.proofs.Common.{subst}
use Rattle.qm_contacts.specs.OwnPortals.{HasOwnPortals}
use Rattle.qm_portal.proofs.worlds.World.own_portals.Goals as goal

pub returns : goal.returns
returns c = subst HasOwnPortals c.self.view_is c.self.invariant.0.own

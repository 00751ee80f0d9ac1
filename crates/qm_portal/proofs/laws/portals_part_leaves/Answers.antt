use Rattle.qm_contacts.proofs.PortalLists.{portals_part}
use Rattle.qm_portal.proofs.laws.portals_part_leaves.Goals as goal

pub returns : goal.returns
returns c = λ tree touchings are. portals_part tree touchings are

use Rattle.qm_contacts.proofs.Partings.{crossing_is_contact}
use Rattle.qm_portal.proofs.laws.crossings_are_contacts.Goals as goal

pub returns : goal.returns
returns c = crossing_is_contact

use Rattle.qm_contacts.proofs.Partings.{tree_leaves_meet, one_meeting}
use Rattle.qm_portal.proofs.laws.leaves_meet_once.Goals as goal

pub returns-clause-meet : goal.returns-clause-meet
returns-clause-meet c = tree_leaves_meet

pub returns-clause-once : goal.returns-clause-once
returns-clause-once c = one_meeting

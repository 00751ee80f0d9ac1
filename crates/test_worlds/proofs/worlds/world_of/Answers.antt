use Rattle.qm_contacts.proofs.MarkedTrees.{marked_contacts}
use Rattle.test_worlds.proofs.worlds.world_of.Goals as goal

pub world-requires : goal.world-requires
world-requires c = rw c.with_filled-marked.ensures (marked_contacts _ _ _ c.in_ok-contacts.ensures)

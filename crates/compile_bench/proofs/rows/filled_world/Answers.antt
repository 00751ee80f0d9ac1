use Rattle.qm_contacts.proofs.MarkedTrees.{marked_contacts}
use Rattle.compile_bench.proofs.rows.filled_world.Goals as goal

pub world-requires : goal.world-requires
world-requires c = rw c.with_filled.ensures (marked_contacts _ _ _ c.in_ok-contacts.ensures)

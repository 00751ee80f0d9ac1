use Rattle.std.specs.Prelude.{sum_by}
use Rattle.qm_portal.specs.inner.Walks.{cell_weight, IsWalking, AreEmpty}
use Rattle.qm_portal.proofs.walk.found_below.Given as goal

abbrev pub invariant-loop-cell : goal.invariant-loop-cell
invariant-loop-cell l = record {
  walking : IsWalking l.tree l.fn.cell l.due.items l.pairs.items l.outside.items;
  empty : AreEmpty l.buffers;
}

abbrev pub decreases-loop-cell : goal.decreases-loop-cell
decreases-loop-cell l = sum_by (cell_weight l.tree) l.due.items

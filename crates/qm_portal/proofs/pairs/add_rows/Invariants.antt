use Rattle.std.proofs.Common.{◌≡◌, ◌++◌}
use Rattle.std.specs.Vec.Iter.{drain_items}
use Rattle.qm_portal.specs.inner.Walks.{AreRowsAdded, AreEmpty}
use Rattle.qm_portal.proofs.pairs.add_rows.Given as goal

abbrev pub invariant-loop-front : goal.invariant-loop-front
invariant-loop-front l = record {
  can_next : (goal.iterator-loop-front).can_next l.front-iterator;
  is_finite : (goal.iterator-loop-front).is_finite l.front-iterator;
  taken : l.yielded ++ drain_items l.front-iterator ≡ drain_items l.initial.front-iterator;
  rows : AreRowsAdded l.tree l.n l.back l.yielded l.fn.pairs.items l.pairs.items;
  empty : AreEmpty l.buffers;
}

use Rattle.std.proofs.Common.{◌≡◌, length}
use Rattle.qm_contacts.specs.NumberedLeaves.{numbered_leaves}
use Rattle.qm_rows.proofs.Gathering.{AreLeafRowsSoFar}
use Rattle.qm_rows.proofs.rows.leaf_rows.Given as goal

-- the rows of the leaves so far
abbrev pub invariant-loop-n : goal.invariant-loop-n
invariant-loop-n l = record {
  one_each : length l.leaf_rows.items ≡ l.n;
  rows : AreLeafRowsSoFar l.world.portals l.rows (length (numbered_leaves l.world.tree)) l.leaf_rows.items;
}

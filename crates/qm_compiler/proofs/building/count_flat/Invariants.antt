use Rattle.std.proofs.Common.{◌≡◌, ◌≤◌, take}
use Rattle.qm_compiler.specs.inner.FlatCount.{flat_count}
use Rattle.qm_compiler.proofs.building.count_flat.Given as goal

-- the flat ones of the brushes so far are counted
abbrev pub invariant-loop-i : goal.invariant-loop-i
invariant-loop-i l = record {
  counted : l.count ≡ flat_count (take l.i l.list);
  few : l.count ≤ l.i;
}

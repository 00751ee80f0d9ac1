use Rattle.std.proofs.Common.{◌≡◌, ◌≤◌, count_by, take}
use Rattle.qm_compiler.proofs.counting.count_filled.Given as goal

-- the filled ones of the leaves so far are counted
abbrev pub invariant-loop-leaf : goal.invariant-loop-leaf
invariant-loop-leaf l = record {
  counted : l.count ≡ count_by (λ found. found.filled) (take l.leaf-index l.leaves);
  few : l.count ≤ l.leaf-index;
}

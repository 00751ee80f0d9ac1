use Rattle.std.proofs.Common.{◌≡◌, length}
use Rattle.qm_lists.specs.inner.Steps.{IsBegun}
use Rattle.qm_contacts.specs.Reached.{Begins}
use Rattle.qm_flood.proofs.spreading.begin.Given as goal

-- the leaves so far are gone through
abbrev pub invariant-loop-leaf : goal.invariant-loop-leaf
invariant-loop-leaf l = record {
  one_each : length l.steps.items ≡ l.leaf;
  begun : IsBegun (Begins l.tree) l.steps.items l.found.items;
}

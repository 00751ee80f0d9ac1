use Rattle.std.proofs.Common.{take}
use Rattle.qm_contacts.specs.inner.LeafNumbers.{AreNumbersOf}
use Rattle.qm_portal.proofs.numbers.Numbers.of.Given as goal

-- the leaves so far are numbered
abbrev pub invariant-loop-k : goal.invariant-loop-k
invariant-loop-k l = AreNumbersOf (take l.k l.leaves) l.numbered.items l.before.items

use Rattle.std.proofs.Common.{true, set}
use Rattle.qm_chains.specs.inner.Narrowing.{ShowsNothingNewUpTo}
use Rattle.qm_flow.proofs.masks.has_new_beside.Given as goal

-- the words so far have nothing new beside the leaf
abbrev pub invariant-loop-k : goal.invariant-loop-k
invariant-loop-k l = ShowsNothingNewUpTo (λ n. Unit {0}) l.k l.mask (set l.found l.leaf true)

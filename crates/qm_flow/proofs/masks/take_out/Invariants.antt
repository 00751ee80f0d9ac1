use Rattle.qm_lists.specs.WorkList.{IsIn}
use Rattle.qm_chains.specs.inner.Narrowing.{IsNarrowedUpTo}
use Rattle.qm_flow.proofs.masks.take_out.Given as goal

-- the leaves of the words so far are taken out
abbrev pub invariant-loop-k : goal.invariant-loop-k
invariant-loop-k l = IsNarrowedUpTo (λ n. IsIn l.other n → ⊥) (λ n. IsIn l.other n → ⊥) l.k l.fn.row l.row

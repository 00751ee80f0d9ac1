use Rattle.std.proofs.Common.{◌*◌, ◌/◌, ◌<◌, length, All, Contains}
use Rattle.qm_chains.specs.inner.Narrowing.{ShowsNothingNewUpTo}
use Rattle.qm_flow.proofs.masks.list_new.Given as goal

-- of the words so far, those that are not listed have nothing new
abbrev pub invariant-loop-k : goal.invariant-loop-k
invariant-loop-k l = record {
  within : All (λ k. 64 * k < length l.mask) l.words.items;
  all_new : ShowsNothingNewUpTo (λ n. Contains l.words.items (n / 64) → ⊥) l.k l.mask l.found;
}

use Rattle.std.specs.Prelude.{ℕ, ◌*◌, ◌/◌, ◌<◌, Bool, List, length, All, Contains}
use Rattle.qm_chains.specs.inner.Narrowing.{ShowsNothingNew}

-- words of a mask, by their numbers: in all others it has nothing that was not found
pub record HaveAllNew (mask found : List Bool) (words : List ℕ) : Type 0 where
  pub within : All (λ k. 64 * k < length mask) words
  pub all_new : ShowsNothingNew (λ n. Contains words (n / 64) → ⊥) mask found

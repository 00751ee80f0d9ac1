-- Rows of what was found.
use Rattle.std.proofs.Common.{◌≡◌, ◌⊎◌, ⊎_elim, ℕ, ◌<◌, Bool, true, List, length, set, sym, subst, inr}
use Rattle.qm_lists.specs.WorkList.{IsIn}
use Rattle.qm_chains.proofs.TriedPortals.{gains_one}

-- what was found stays, where one place more may be set
pub found_stays : (row new mask : List Bool) (place : ℕ) → place < length row → (IsIn mask place × (new ≡ set row place true)) ⊎ ((IsIn mask place → ⊥) × (new ≡ row)) → (n : ℕ) → IsIn row n → IsIn new n
found_stays row new mask place within finds n is = ⊎_elim
    (λ it. subst (λ (r : List Bool). IsIn r n) (sym it.1) ((gains_one row place within n).1 (inr is)))
    (λ kept. subst (λ (r : List Bool). IsIn r n) (sym kept.1) is)
    finds

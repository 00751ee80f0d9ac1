-- Ratios of whole numbers: their order, and the least of a list.
use Rattle.std.proofs.Common.{ℕ, zero, suc, ◌<◌, pos, ◌*ℤ◌, ◌<ℤ◌, List, [], ◌∷◌, length, get_or, arith}
use Rattle.qm_numbers.specs.Ratio.{Ratio, IsAtMostRatio}
use Rattle.qm_numbers.proofs.IntegerProducts.{linear}
use Rattle.qm_numbers.proofs.Signs.{by_least, times_at_most, cancel_at_most}
use Rattle.qm_numbers.proofs.Ring.{variable, ◌⊗◌, solved}

pub ratio_self : (r : Ratio) → IsAtMostRatio r r
ratio_self r = omega (arith, linear)

-- of two ratios one is at most the other
pub by_ratio : {P : Type 0} (r s : Ratio) → (IsAtMostRatio r s → P) → (IsAtMostRatio s r → P) → P
by_ratio r s f g = by_least (r.over *ℤ s.under) (s.over *ℤ r.under) (λ h. f (omega (arith, linear))) g

pub ratio_transitive : (r s t : Ratio) → pos 0 <ℤ r.under → pos 0 <ℤ s.under → pos 0 <ℤ t.under → IsAtMostRatio r s → IsAtMostRatio s t → IsAtMostRatio r t
ratio_transitive r s t p q u h k =
    let v = variable in
    let zs = r.over ∷ r.under ∷ s.over ∷ s.under ∷ t.over ∷ t.under ∷ [] in
    let l = times_at_most t.under (r.over *ℤ s.under) (s.over *ℤ r.under) (omega (arith, linear)) h in
    let m = times_at_most r.under (s.over *ℤ t.under) (t.over *ℤ s.under) (omega (arith, linear)) k in
    let a = solved zs (v 3 ⊗ (v 0 ⊗ v 5)) (v 5 ⊗ (v 0 ⊗ v 3)) tt in
    let b = solved zs (v 5 ⊗ (v 2 ⊗ v 1)) (v 1 ⊗ (v 2 ⊗ v 5)) tt in
    let c = solved zs (v 1 ⊗ (v 4 ⊗ v 3)) (v 3 ⊗ (v 4 ⊗ v 1)) tt in
    cancel_at_most s.under (r.over *ℤ t.under) (t.over *ℤ r.under) q (omega (arith, linear))

-- ---- the least of a list

module _ {A : Type 0} (ratio : A → Ratio) (d : A) where
  -- the item at place k has the least ratio of the list
  pub record IsLeastAt (xs : List A) (k : ℕ) : Type 0 where
    pub there : k < length xs
    pub least : (j : ℕ) → j < length xs → IsAtMostRatio (ratio (get_or xs k d)) (ratio (get_or xs j d))

  one_least : (x : A) → IsLeastAt (x ∷ []) zero
  one_least x = record { there = omega arith; least = only }
    where
      only : (j : ℕ) → j < length (x ∷ []) → IsAtMostRatio (ratio x) (ratio (get_or (x ∷ []) j d))
      only zero h = ratio_self (ratio x)
      only (suc j) h = absurd (omega arith)

  before_least : (x : A) (xs : List A) (k : ℕ) → ((j : ℕ) → j < length (x ∷ xs) → pos 0 <ℤ (ratio (get_or (x ∷ xs) j d)).under) → IsLeastAt xs k → IsAtMostRatio (ratio x) (ratio (get_or xs k d)) → IsLeastAt (x ∷ xs) zero
  before_least x xs k p l h = record { there = omega arith; least = each }
    where
      there : k < length xs
      there = l.there

      each : (j : ℕ) → j < length (x ∷ xs) → IsAtMostRatio (ratio x) (ratio (get_or (x ∷ xs) j d))
      each zero g = ratio_self (ratio x)
      each (suc j) g = ratio_transitive (ratio x) (ratio (get_or xs k d)) (ratio (get_or xs j d)) (p zero (omega arith)) (p (suc k) (omega arith)) (p (suc j) g) h (l.least j (omega arith))

  after_least : (x : A) (xs : List A) (k : ℕ) → IsLeastAt xs k → IsAtMostRatio (ratio (get_or xs k d)) (ratio x) → IsLeastAt (x ∷ xs) (suc k)
  after_least x xs k l h = record { there = let t = l.there in omega arith; least = each }
    where
      each : (j : ℕ) → j < length (x ∷ xs) → IsAtMostRatio (ratio (get_or xs k d)) (ratio (get_or (x ∷ xs) j d))
      each zero g = h
      each (suc j) g = l.least j (omega arith)

  -- a list that is not empty, of ratios of positive denominators, has a place of the least
  pub least_ratio : (xs : List A) → zero < length xs → ((j : ℕ) → j < length xs → pos 0 <ℤ (ratio (get_or xs j d)).under) → (k : ℕ) × IsLeastAt xs k
  least_ratio [] h p = absurd (omega arith)
  least_ratio (x ∷ []) h p = (zero, one_least x)
  least_ratio (x ∷ (y ∷ ys)) h p =
      let r = least_ratio (y ∷ ys) (omega arith) (λ j l. p (suc j) (omega arith)) in
      by_ratio (ratio x) (ratio (get_or (y ∷ ys) r.0 d))
      (λ l. (zero, before_least x (y ∷ ys) r.0 p r.1 l))
      (λ l. (suc r.0, after_least x (y ∷ ys) r.0 r.1 l))

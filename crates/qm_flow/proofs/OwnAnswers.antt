-- Rows of the flow's own: what they must answer and can answer, and rows of which none is there yet.
use Rattle.std.proofs.Common.{◌≡◌, ⊎_elim, ℕ, Option, None, Some, List, Bool, length, get_or, replicate, sym, ap, ◌∙◌, subst, arith}
use Rattle.std.specs.Prelude.{MatchOption}
use Rattle.std.proofs.lemmas.Bool.{cases_lt}
use Rattle.std.proofs.lemmas.List.{length-replicate, get_or-replicate, get_or_past}
use Rattle.qm_lists.specs.WorkList.{IsIn}
use Rattle.qm_contacts.specs.World.{World}
use Rattle.qm_chains.specs.inner.OwnRows.{AreOwnRows, IsInSightAt, MustHave, CanHave}
use Rattle.qm_chains.specs.inner.Pairs.{LieWithinPairs}

-- a smaller ceiling
pub can_more : (less more : List Bool) (own : List (Option (List Bool))) (number n : ℕ) → ((m : ℕ) → IsIn less m → IsIn more m) → CanHave less own number n → CanHave more own number n
can_more less more own number n wider can = by (get_or own number None) can
  where
    by : (row : Option (List Bool)) → MatchOption row (IsIn less n) (λ r. IsIn r n) → MatchOption row (IsIn more n) (λ r. IsIn r n)
    by None is = wider n is
    by (Some row) is = is

-- ---- none yet

pub none_at : (count number : ℕ) → ◌≡◌ {A = Option (List Bool)} (get_or (replicate count None) number None) None
none_at count number = ⊎_elim
    (λ inside. get_or-replicate count number None None inside)
    (λ past. let long : length {A = Option (List Bool)} (replicate count None) ≡ count = length-replicate count None in get_or_past (replicate count None) number None (omega (arith, past, long)))
    (cases_lt number count)

module _ (own : List (Option (List Bool))) (count : ℕ) (fresh : own ≡ replicate count None) where
  none_there : (number : ℕ) → get_or own number None ≡ None
  none_there number = ap (λ (rows : List (Option (List Bool))). get_or rows number None) fresh ∙ none_at count number

  never_some : (number : ℕ) (row : List Bool) → get_or own number None ≡ Some row → ⊥
  never_some number row is = let both : None ≡ Some row = sym (none_there number) ∙ is in cc

  pub fresh_own : (world : World) → count ≡ length world.portals → AreOwnRows world own
  fresh_own world same = record {
    one_each = ap length fresh ∙ length-replicate count None ∙ same;
    wide = λ number row is. absurd (never_some number row is);
  }

  pub fresh_must : (world : World) (number n : ℕ) → IsInSightAt world number n → MustHave world own number n
  fresh_must world number n sight = subst (λ (row : Option (List Bool)). MatchOption row (IsInSightAt world number n) (λ r. IsIn r n)) (sym (none_there number)) sight

  pub fresh_can : (ceiling : List Bool) (number n : ℕ) → CanHave ceiling own number n → IsIn ceiling n
  fresh_can ceiling number n can = subst (λ (row : Option (List Bool)). MatchOption row (IsIn ceiling n) (λ r. IsIn r n)) (none_there number) can

  pub fresh_within : (MayHave : ℕ → ℕ → Type 0) → LieWithinPairs MayHave own
  fresh_within MayHave number row is n has = absurd (never_some number row is)

  pub fresh_some : (number : ℕ) (row : List Bool) → get_or own number None ≡ Some row → ⊥
  fresh_some number row is = never_some number row is

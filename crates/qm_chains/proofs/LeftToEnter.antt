-- The leaves that a flood of a cone has left to enter: all that the chain may enter at first, then one fewer with each leaf.
use Rattle.std.proofs.Common.{◌≡◌, inl, inr, ⊎_elim, ℕ, ◌+◌, ◌*◌, ◌/◌, ◌%◌, ◌^◌, ◌<◌, Bool, true, false, not, ◌&&◌, ◌||◌, List, length, get_or, set, replicate, w64, refl, sym, ap, ◌∙◌, subst, arith}
use Rattle.std.specs.Int.{bit_not}
use Rattle.std.proofs.lemmas.Bool.{cases_eq}
use Rattle.std.proofs.lemmas.List.{length-set, length-replicate}
use Rattle.qm_lists.specs.Word.{has_bit, IsMasked}
use Rattle.qm_lists.specs.WorkList.{IsIn}
use Rattle.qm_lists.proofs.Bits.{has_bit-or, has_bit-not, has_bit-zero, has_bit-set_same, has_bit-set_other}
use Rattle.qm_lists.proofs.Cases.{both_yes}
use Rattle.qm_chains.specs.inner.Cone.{AreLeft}
use Rattle.qm_chains.specs.inner.Frame.{Frame}
use Rattle.qm_chains.specs.inner.Narrowing.{IsNarrowed, IsWithout}
use Rattle.qm_chains.proofs.Beginnings.{none_clear}
use Rattle.qm_chains.proofs.TriedPortals.{gains_one}

-- ---- one bit of a row is cleared

-- of the word of one bit no other bit is set
alone_same : (k : ℕ) → k < 64 → has_bit (1 * 2 ^ k % 2 ^ 64) k ≡ true
alone_same k within = sym (has_bit-or 0 (1 * 2 ^ k % 2 ^ 64) k ∙ ap (λ (b : Bool). b || has_bit (1 * 2 ^ k % 2 ^ 64) k) (has_bit-zero k)) ∙ has_bit-set_same 0 k within

alone_other : (k i : ℕ) → k < 64 → (i ≡ k → ⊥) → has_bit (1 * 2 ^ k % 2 ^ 64) i ≡ false
alone_other k i within other = sym (has_bit-or 0 (1 * 2 ^ k % 2 ^ 64) i ∙ ap (λ (b : Bool). b || has_bit (1 * 2 ^ k % 2 ^ 64) i) (has_bit-zero i)) ∙ has_bit-set_other 0 k i within other ∙ has_bit-zero i

and_yes : (a b : Bool) → a ≡ true → b ≡ true → (a && b) ≡ true
and_yes a b first second = rw (first, second) refl

module _ (place : ℕ) (old new : List Bool) (masked : IsMasked old new (place / 64) (bit_not w64 (1 * 2 ^ (place % 64) % 2 ^ 64))) where
  abbrev word : ℕ
  word = 1 * 2 ^ (place % 64) % 2 ^ 64

  bit_within : place % 64 < 64
  bit_within = omega arith

  small : word < 2 ^ 64
  small = omega arith

  at_place : (n : ℕ) → n / 64 ≡ place / 64 → get_or new n false ≡ (get_or old n false && has_bit (bit_not w64 word) (n % 64))
  at_place n here =
      let bit : n % 64 < 64 = omega arith in
      let is : 64 * (place / 64) + n % 64 ≡ n = omega (arith, here) in
      subst (λ (m : ℕ). get_or new m false ≡ (get_or old m false && has_bit (bit_not w64 word) (n % 64))) is (masked.in_word (n % 64) bit)

  kept : (n : ℕ) → n / 64 ≡ place / 64 → (place ≡ n → ⊥) → has_bit (bit_not w64 word) (n % 64) ≡ true
  kept n here other =
      let bit : n % 64 < 64 = omega arith in
      let apart : n % 64 ≡ place % 64 → ⊥ = λ same. other (omega (arith, here, same)) in
      has_bit-not word (n % 64) small bit ∙ ap not (alone_other (place % 64) (n % 64) bit_within apart)

  taken : get_or new place false ≡ false
  taken =
      let gone = has_bit-not word (place % 64) small bit_within ∙ ap not (alone_same (place % 64) bit_within) in
      at_place place refl ∙ rw gone (by_cases (get_or old place false))
    where
      by_cases : (b : Bool) → (b && false) ≡ false
      by_cases true = refl
      by_cases false = refl

  pub cleared : IsWithout place old new
  cleared = record {
    same_length = masked.same_length;
    exactly = λ n. (
      (λ is. (
        ⊎_elim
            (λ here. (both_yes (get_or old n false) (has_bit (bit_not w64 word) (n % 64)) (sym (at_place n here) ∙ is)).0)
            (λ elsewhere. sym (masked.elsewhere n elsewhere) ∙ is)
            (cases_eq (n / 64) (place / 64)),
        λ same. let never : true ≡ false = sym (subst (IsIn new) (sym same) is) ∙ taken in cc,
      )),
      (λ both. ⊎_elim
          (λ here. at_place n here ∙ and_yes (get_or old n false) (has_bit (bit_not w64 word) (n % 64)) both.0 (kept n here both.1))
          (λ elsewhere. masked.elsewhere n elsewhere ∙ both.0)
          (cases_eq (n / 64) (place / 64))),
    );
  }

-- ---- what is left

module _ (frame : Frame) where
  -- at first: the leaves of the mask that were not met, without the one that is entered
  pub left_begins : (entered leaves : ℕ) (cone unmet left : List Bool) → entered < leaves → length frame.mask ≡ leaves → cone ≡ set (replicate leaves false) entered true → IsNarrowed (λ n. IsIn frame.met n → ⊥) (λ n. IsIn frame.met n → ⊥) frame.mask unmet → IsWithout entered unmet left → AreLeft frame cone left
  left_begins entered leaves cone unmet left inside wide cone_is narrowed without =
      let clear_long : length {A = Bool} (replicate leaves false) ≡ leaves = length-replicate leaves false in
      let one = gains_one (replicate leaves false) entered (omega (arith, clear_long, inside)) in
      record {
        wide = without.same_length ∙ narrowed.same_length ∙ wide ∙ sym (ap length cone_is ∙ length-set (replicate leaves false) entered true ∙ clear_long);
        all = λ n may. ⊎_elim
            (λ here. inl (subst (λ (row : List Bool). IsIn row n) (sym cone_is) ((one n).1 (inl here))))
            (λ other. inr ((without.exactly n).1 (narrowed.keeps n may.1 may.0, other)))
            (cases_eq entered n);
        apart = λ n is in_cone. ⊎_elim
            (λ here. ((without.exactly n).0 is).1 here)
            (λ never. none_clear leaves n never)
            ((one n).0 (subst (λ (row : List Bool). IsIn row n) cone_is in_cone));
      }

  -- then with each leaf that is entered one fewer
  pub left_fewer : (leaf : ℕ) (cone now left fewer : List Bool) → leaf < length cone → now ≡ set cone leaf true → IsWithout leaf left fewer → AreLeft frame cone left → AreLeft frame now fewer
  left_fewer leaf cone now left fewer inside now_is without so_far =
      let one = gains_one cone leaf inside in
      record {
        wide = without.same_length ∙ so_far.wide ∙ sym (ap length now_is ∙ length-set cone leaf true);
        all = λ n may. ⊎_elim
            (λ here. inl (subst (λ (row : List Bool). IsIn row n) (sym now_is) ((one n).1 (inl here))))
            (λ other. ⊎_elim
            (λ was. inl (subst (λ (row : List Bool). IsIn row n) (sym now_is) ((one n).1 (inr was))))
            (λ still. inr ((without.exactly n).1 (still, other)))
            (so_far.all n may))
            (cases_eq leaf n);
        apart = λ n is in_now.
            let was = (without.exactly n).0 is in
            ⊎_elim
            (λ here. was.1 here)
            (λ old. so_far.apart n was.0 old)
            ((one n).0 (subst (λ (row : List Bool). IsIn row n) now_is in_now));
      }

-- Bits of words: what is in one and not in another, and a bit that is set in one word of a list.
use Rattle.std.proofs.Common.{◌≡◌, ◌≢◌, ◌==◌, ℕ, zero, suc, ◌+◌, ◌*◌, ◌%◌, ◌^◌, ◌<◌, ◌≤◌, max, Bool, true, false, not, cond, ◌||◌, List, length, get_or, set, bit_or, bit_xor, ◌⊎◌, inl, inr, ⊎_elim, refl, ap, sym, subst, ◌∙◌, arith, ◌↔◌}
use Rattle.std.specs.Int.{bit_at}
use Rattle.std.specs.Int.Bits.{xor_self}
use Rattle.std.proofs.lemmas.Bool.{cases_eq}
use Rattle.std.proofs.lemmas.Nat.{le_or_l}
use Rattle.std.proofs.lemmas.List.{get_or-set_same, get_or-set_other}
use Rattle.std.proofs.lemmas.Nat.Bits.{bit_at_or, bit_at_xor, bit_at-lt, bit_at-zero, same_from_bits}
use Rattle.qm_lists.specs.Word.{has_bit}
use Rattle.qm_lists.proofs.Bits.{has_bit-or, has_bit-set_same, has_bit-set_other, has_bit-zero}
use Rattle.qm_base.specs.inner.Sweeping.{IsInLane}

-- ---- both bits

other_bit : (a b : ℕ) → a < 2 → b < 2 → ((a + b) % 2 == 1) ≡ cond (a == 1) (not (b == 1)) (b == 1)
other_bit zero zero l m = refl
other_bit zero (suc zero) l m = refl
other_bit (suc zero) zero l m = refl
other_bit (suc zero) (suc zero) l m = refl
other_bit (suc (suc a)) b l m = absurd (omega arith)
other_bit a (suc (suc b)) l m = absurd (omega arith)

pub has_bit-xor : (a b i : ℕ) → has_bit (bit_xor a b) i ≡ cond (has_bit a i) (not (has_bit b i)) (has_bit b i)
has_bit-xor a b i = ap (λ n. n == 1) (bit_at_xor a b i) ∙ other_bit (bit_at a i) (bit_at b i) (bit_at-lt a i) (bit_at-lt b i)

in_first : (p q : Bool) → (q ≡ true → p ≡ true) → cond p (not q) q ≡ true → p ≡ true
in_first true q sub is = refl
in_first false q sub is = sub is

in_second : (p q : Bool) → p ≡ true → (q ≡ true) ⊎ (cond p (not q) q ≡ true)
in_second true true is = inl refl
in_second true false is = inr refl
in_second false q is = absurd cc

pub or_true : (p q : Bool) → ((p || q) ≡ true) ↔ ((p ≡ true) ⊎ (q ≡ true))
or_true true q = ((λ is. inl refl), (λ is. refl))
or_true false q = ((λ is. inr is), (λ is. ⊎_elim (λ never. absurd cc) (λ here. here) is))

-- ---- what is in one and not in another

pub has_due : (a b i : ℕ) → (has_bit b i ≡ true → has_bit a i ≡ true) → has_bit (bit_xor a b) i ≡ true → has_bit a i ≡ true
has_due a b i sub due = in_first (has_bit a i) (has_bit b i) sub (sym (has_bit-xor a b i) ∙ due)

pub due_or_not : (a b i : ℕ) → has_bit a i ≡ true → (has_bit b i ≡ true) ⊎ (has_bit (bit_xor a b) i ≡ true)
due_or_not a b i is = ⊎_elim (λ was. inl was) (λ due. inr (has_bit-xor a b i ∙ due)) (in_second (has_bit a i) (has_bit b i) is)

greater_bit : (a b : ℕ) → a < 2 → b < 2 → ((b == 1) ≡ true → (a == 1) ≡ true) → max b a ≡ a
greater_bit zero zero l m sub = refl
greater_bit (suc zero) zero l m sub = refl
greater_bit zero (suc zero) l m sub = let never : false ≡ true = sub refl in absurd cc
greater_bit (suc zero) (suc zero) l m sub = refl
greater_bit (suc (suc a)) b l m sub = absurd (omega arith)
greater_bit a (suc (suc b)) l m sub = absurd (omega arith)

-- a word with all bits of another one, and more, is greater
pub more_bits : (a b : ℕ) → ((i : ℕ) → has_bit b i ≡ true → has_bit a i ≡ true) → (bit_xor a b ≡ 0 → ⊥) → b < a
more_bits a b sub some =
    let both : bit_or b a ≡ a = same_from_bits (bit_or b a) a (λ i. bit_at_or b a i ∙ greater_bit (bit_at a i) (bit_at b i) (bit_at-lt a i) (bit_at-lt b i) (sub i)) in
    let most : b ≤ a = subst (λ n. b ≤ n) both (le_or_l b a) in
    ⊎_elim (λ same. absurd (some (ap (λ n. bit_xor n b) (sym same) ∙ xor_self b))) (λ other. omega (arith, most, other)) (cases_eq b a)

same_bit : (a b : ℕ) → a < 2 → b < 2 → (a + b) % 2 ≡ 0 → a ≡ b
same_bit zero zero l m is = refl
same_bit zero (suc zero) l m is = absurd cc
same_bit (suc zero) zero l m is = absurd cc
same_bit (suc zero) (suc zero) l m is = refl
same_bit (suc (suc a)) b l m is = absurd (omega arith)
same_bit a (suc (suc b)) l m is = absurd (omega arith)

pub none_due : (a b : ℕ) → bit_xor a b ≡ 0 → a ≡ b
none_due a b none = same_from_bits a b (λ i. same_bit (bit_at a i) (bit_at b i) (bit_at-lt a i) (bit_at-lt b i) (sym (bit_at_xor a b i) ∙ ap (λ n. bit_at n i) none ∙ zero_bit i))
  where
    zero_bit : (i : ℕ) → bit_at 0 i ≡ 0
    zero_bit i = bit_at-zero i

-- ---- one bit

pub one_bit : (k i : ℕ) → k < 64 → (has_bit (1 * 2 ^ k % 2 ^ 64) i ≡ true) ↔ (i ≡ k)
one_bit k i within = (
  (λ is. ⊎_elim (λ here. here) (λ other. let never : false ≡ true = sym (has_bit-set_other 0 k i within other ∙ has_bit-zero i) ∙ is in cc) (cases_eq i k)),
  (λ here. rw here (has_bit-set_same 0 k within)),
)

-- ---- bits are set in one word of a list

module _ (words : List ℕ) (k more : ℕ) (within : k < length words) (bit leaf : ℕ) where
  in_word : has_bit (bit_or (get_or words k 0) more) bit ≡ (has_bit (get_or words k 0) bit || has_bit more bit)
  in_word = has_bit-or (get_or words k 0) more bit

  pub bits_set : IsInLane (set words k (bit_or (get_or words k 0) more)) bit leaf ↔ (IsInLane words bit leaf ⊎ ((leaf ≡ k) × (has_bit more bit ≡ true)))
  bits_set = ⊎_elim at_word elsewhere (cases_eq leaf k)
    where
      new : List ℕ
      new = set words k (bit_or (get_or words k 0) more)

      at_word : leaf ≡ k → IsInLane new bit leaf ↔ (IsInLane words bit leaf ⊎ ((leaf ≡ k) × (has_bit more bit ≡ true)))
      at_word here =
          let same : get_or new leaf 0 ≡ bit_or (get_or words k 0) more = ap (λ (n : ℕ). get_or new n 0) here ∙ get_or-set_same words k (bit_or (get_or words k 0) more) 0 within in
          let bits : has_bit (get_or new leaf 0) bit ≡ (has_bit (get_or words leaf 0) bit || has_bit more bit) =
          ap (λ (w : ℕ). has_bit w bit) same ∙ in_word ∙ ap (λ (n : ℕ). has_bit (get_or words n 0) bit || has_bit more bit) (sym here) in
          let cases = or_true (has_bit (get_or words leaf 0) bit) (has_bit more bit) in
          ((λ is. ⊎_elim (λ was. inl was) (λ set_now. inr (here, set_now)) (cases.0 (sym bits ∙ is))), (λ is. bits ∙ cases.1 (⊎_elim (λ was. inl was) (λ both. inr both.1) is)))

      elsewhere : leaf ≢ k → IsInLane new bit leaf ↔ (IsInLane words bit leaf ⊎ ((leaf ≡ k) × (has_bit more bit ≡ true)))
      elsewhere other =
          let same : get_or new leaf 0 ≡ get_or words leaf 0 = get_or-set_other words k leaf (bit_or (get_or words k 0) more) 0 other in
          ((λ is. inl (sym (ap (λ (w : ℕ). has_bit w bit) same) ∙ is)), (λ is. ⊎_elim (λ was. ap (λ (w : ℕ). has_bit w bit) same ∙ was) (λ both. absurd (other both.0)) is))
